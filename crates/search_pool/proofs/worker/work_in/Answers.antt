use Rattle.search_pool.proofs.worker.work_in.Goals as goal
use Rattle.search_pool.proofs.TurnBeginning.{begins_at_work}

pub turns-init : goal.turns-init
turns-init g c = (tt, tt, begins_at_work c.args.claims.now c.args.pass c.begin_search.result (record { roots = c.new.result; next = 0 }) c.requires.pass c.requires.idle c.begin_search.ensures.stack c.begin_search.ensures.wanted c.new.ensures.items)
