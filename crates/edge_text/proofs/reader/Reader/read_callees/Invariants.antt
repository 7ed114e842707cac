use Rattle.std.proofs.Common.{◌-◌, length}
use Rattle.edge_text.proofs.CalleeSteps.{AreCalleesRead}
use Rattle.edge_text.proofs.reader.Reader.read_callees.Given as goal

-- the words so far are read
abbrev pub invariant-loop-word : goal.invariant-loop-word
invariant-loop-word l = AreCalleesRead l.line l.start l.from l.fn.self l.at l.self

abbrev pub decreases-loop-word : goal.decreases-loop-word
decreases-loop-word l = length l.line - l.at
