use Rattle.std.proofs.Common.{take, length}
use Rattle.group_release.specs.Levels.{IsRaised, LeadDown}
use Rattle.group_release.proofs.level.raise_height.Given as goal

abbrev pub invariant-loop-callee : goal.invariant-loop-callee
invariant-loop-callee l = IsRaised (LeadDown l.places (length l.levels) (take l.callee-index l.callees)) l.levels l.initial.height l.height
