use Rattle.loop_paths.proofs.Climbing.{IsClimbing}
use Rattle.loop_paths.proofs.tree.Tree.path.Given as goal

abbrev pub invariant-loop-at : goal.invariant-loop-at
invariant-loop-at l = IsClimbing l.self.nodes.items l.self.callers.items l.place l.at l.path.items

abbrev pub decreases-loop-at : goal.decreases-loop-at
decreases-loop-at l = l.at
