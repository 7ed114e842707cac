use Rattle.std.proofs.Common.{◌≡◌, take}
use Rattle.search_pool.specs.Working.{last_group, with_closed}
use Rattle.search_pool.proofs.worker.close.close_group.Given as goal

-- so many nodes of the group are closed
abbrev pub invariant-loop-index : goal.invariant-loop-index
invariant-loop-index l = l.turn ≡ with_closed l.fn.turn (take l.index (last_group l.fn.turn.book))
