use Rattle.std.proofs.Common.{◌+◌, ◌-◌, not, length}
use Rattle.std.specs.Prelude.{count_by}
use Rattle.loop_paths.proofs.Searching.{IsGrowing}
use Rattle.loop_paths.proofs.breadth.grow.Given as goal

abbrev pub invariant-loop-place : goal.invariant-loop-place
invariant-loop-place g l =
    IsGrowing (g.O.Opener.lists l.opener) l.to l.initial.tree.nodes.items l.initial.tree.callers.items l.initial.seen l.tree.nodes.items l.tree.callers.items l.seen l.place

abbrev pub decreases-loop-place : goal.decreases-loop-place
decreases-loop-place g l = count_by (λ mark. not mark) l.seen + length l.tree.nodes.items - l.place
