use Rattle.std.proofs.Common.{◌-◌, length}
use Rattle.edge_text.proofs.LongNames.{AreShortUpTo}
use Rattle.edge_text.proofs.fault.long_name.Given as goal

-- no word so far is too long
abbrev pub invariant-loop-word : goal.invariant-loop-word
invariant-loop-word l = AreShortUpTo l.line l.at

abbrev pub decreases-loop-word : goal.decreases-loop-word
decreases-loop-word l = length l.line - l.at
