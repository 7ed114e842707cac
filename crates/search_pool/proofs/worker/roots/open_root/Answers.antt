-- A root that is won is opened on the empty search.
use Rattle.search_pool.proofs.worker.roots.open_root.Goals as goal
use Rattle.search_pool.proofs.TurnRooting.{opened_at_work, room_working}

pub open_node-opened-requires-clause-working : goal.open_node-opened-requires-clause-working
open_node-opened-requires-clause-working g c κs within = room_working c.requires.won c.reserve.ensures.stack c.reserve.ensures.wanted

pub returns-in-Ok-clause-well : goal.returns-in-Ok-clause-well
returns-in-Ok-clause-well g c = opened_at_work c.requires.won c.in-Ok.ensures.running
