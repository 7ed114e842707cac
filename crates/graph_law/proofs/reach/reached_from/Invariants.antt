use Rattle.std.proofs.Common.{◌+◌, ◌*◌, ◌^◌, not, vec_len, length}
use Rattle.std.specs.Prelude.{count_by}
use Rattle.graph_law.specs.Graph.{Calls}
use Rattle.graph_law.proofs.Marks.{IsSpreading}
use Rattle.graph_law.proofs.reach.reached_from.Given as goal

abbrev pub invariant-loop-node : goal.invariant-loop-node
invariant-loop-node l = IsSpreading (Calls l.graph.lists) (length l.graph.lists) l.starts l.marks.items l.pending.items

abbrev pub decreases-loop-node : goal.decreases-loop-node
decreases-loop-node l = 2 ^ 64 * count_by (λ mark. not mark) l.marks.items + vec_len l.pending
