use Rattle.indexmap.specs.IndexMap.{spare}
use Rattle.indexmap.specs.Drain.{drain_rest}
use Rattle.search_stack.proofs.Moves.{IsMoving}
use Rattle.search_stack.proofs.transfer.move_entries.Given as goal

abbrev pub invariant-moves : goal.invariant-moves
invariant-moves l =
    IsMoving l.fn.to.entries l.fn.from.entries l.to.entries l.yielded (drain_rest l.node-iterator) l.at (spare l.fn.to) (spare l.to)
