use Rattle.std.proofs.Common.{◌-◌, ◌≤◌, length}
use Rattle.clause_text.specs.Pieces.{AreStretches}
use Rattle.clause_text.proofs.piece.stretches_from.Given as goal

abbrev pub invariant-loop-at : goal.invariant-loop-at
invariant-loop-at l = (l.fn.from ≤ l.at) × AreStretches l.tokens l.fn.from l.stretches.items l.at

abbrev pub decreases-loop-at : goal.decreases-loop-at
decreases-loop-at l = length l.tokens - l.at
