use Rattle.std.proofs.Common.{◌≡◌}
use Rattle.group_release.proofs.MemberSteps.{AreMembersSeen}
use Rattle.group_feed.proofs.TakeSteps.{IsMidway}
use Rattle.group_feed.proofs.level_taker.LevelTakerTaker.take.Given as goal

abbrev pub invariant-loop-member : goal.invariant-loop-member
invariant-loop-member g l = record {
  opener : l.self-inside.opener ≡ l.initial.self-inside.opener;
  trail : l.self-inside.trail ≡ l.initial.self-inside.trail;
  midway :
      IsMidway (g.O.Opener.lists l.self-inside.opener.now) l.self-inside.trail l.group l.self-inside.places.items l.self-inside.levels.items;
  seen :
      AreMembersSeen (g.O.Opener.lists l.self-inside.opener.now) l.self-inside.places.items l.self-inside.levels.items l.group l.member-index
      l.height l.recursive;
}
