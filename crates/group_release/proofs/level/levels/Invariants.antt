use Rattle.std.proofs.Common.{◌≡◌, length}
use Rattle.graph_law.specs.Graph.{Calls, lists_of}
use Rattle.group_release.specs.Levels.{AreRaised}
use Rattle.group_release.proofs.LevelSteps.{ArePlacesBelow}
use Rattle.group_release.proofs.level.levels.Given as goal

abbrev pub invariant-loop-group : goal.invariant-loop-group
invariant-loop-group g l = record {
  each : length l.levels.items ≡ l.group-index;
  places : ArePlacesBelow (length (g.O.Opener.lists l.opener)) (lists_of l.groups) l.group-index l.places.items;
  so_far : AreRaised (Calls (g.O.Opener.lists l.opener)) (lists_of l.groups) l.levels.items;
}
