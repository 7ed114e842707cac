use Rattle.std.proofs.Common.{take}
use Rattle.std.specs.Prelude.{All}
use Rattle.graph_law.specs.Classes.{HasMember}
use Rattle.group_feed.proofs.feeder.copied_roots.Given as goal

-- the roots before this one are in one of the groups
abbrev pub invariant-loop-index : goal.invariant-loop-index
invariant-loop-index l = All (HasMember l.copies.groups) (take l.index l.roots)
