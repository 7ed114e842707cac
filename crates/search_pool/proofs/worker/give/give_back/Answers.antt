use Rattle.search_pool.proofs.worker.give.give_back.Goals as goal
use Rattle.search_pool.proofs.TurnGiving.{is_at_work}

pub returns-clause-at_work : goal.returns-clause-at_work
returns-clause-at_work c =
    is_at_work c.args.turn c.give-pass.result c.args.search c.args.stretch c.args.seen_roots c.give-pass.ensures.table c.give-pass.ensures.view
