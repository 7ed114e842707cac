use Rattle.search_stack.proofs.Scan.{IsScanned}
use Rattle.search_stack.proofs.cut.greatest_cut.Given as goal

abbrev pub invariant-frames : goal.invariant-frames
invariant-frames l = IsScanned l.frames l.place l.above l.least

abbrev pub decreases-frames : goal.decreases-frames
decreases-frames l = l.above
