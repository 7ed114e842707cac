use Rattle.std.proofs.Common.{◌+◌, ◌-◌, length}
use Rattle.edge_text.proofs.FirstFaults.{AreFine}
use Rattle.edge_text.proofs.fault.first_fault.Given as goal

-- no line so far has a name that is too long
abbrev pub invariant-loop-at : goal.invariant-loop-at
invariant-loop-at l = AreFine l.text l.at l.number

abbrev pub decreases-loop-at : goal.decreases-loop-at
decreases-loop-at l = length l.text + 1 - l.at
