-- The book may come back as it might before it was marked.
use Rattle.std.proofs.Common.{rules}
use Rattle.search_pool.proofs.TurnLaws.{may_still}
use Rattle.search_pool.proofs.worker.stop.stop.Goals as goal

pub give-pass-requires : goal.give-pass-requires
give-pass-requires c = may_still c.requires (search rules) (search rules)
