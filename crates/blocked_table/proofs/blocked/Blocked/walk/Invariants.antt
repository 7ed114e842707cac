use Rattle.std.proofs.Common.{◌-◌, length}
use Rattle.blocked_table.proofs.WalkSteps.{IsWalking}
use Rattle.blocked_table.proofs.blocked.Blocked.walk.Given as goal

abbrev pub invariant-walk : goal.invariant-walk
invariant-walk l = IsWalking l.self.kept l.on l.places.items l.node l.entries

abbrev pub decreases-walk : goal.decreases-walk
decreases-walk l = length l.self.kept - length l.places.items
