use Rattle.std.proofs.Common.{length}
use Rattle.call_told.proofs.StretchLemmas.{IsCutting}
use Rattle.call_told.proofs.stretches.stretches.Given as goal

-- the rows so far
abbrev pub invariant-loop-rows : goal.invariant-loop-rows
invariant-loop-rows g l = IsCutting l.fn.rows l.rows l.fn.places l.places l.cut.items

abbrev pub decreases-loop-rows : goal.decreases-loop-rows
decreases-loop-rows g l = length l.rows
