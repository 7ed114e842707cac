use Rattle.group_release.proofs.MemberSteps.{AreMembersSeen}
use Rattle.group_release.proofs.level.level_of.Given as goal

abbrev pub invariant-loop-member : goal.invariant-loop-member
invariant-loop-member g l = AreMembersSeen (g.O.Opener.lists l.opener) l.places l.levels l.group l.member-index l.height l.recursive
