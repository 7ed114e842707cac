use Rattle.std.proofs.Common.{ℕ, ◌<◌, [], get_or, All}
use Rattle.graph_law.specs.Graph.{lists_of}
use Rattle.graph_law.proofs.graph.Graph.new.Given as goal

abbrev pub invariant-loop-list : goal.invariant-loop-list
invariant-loop-list l = (p : ℕ) → p < l.list-index → All (λ node. node < l.count) (get_or (lists_of l.list-items) p [])
