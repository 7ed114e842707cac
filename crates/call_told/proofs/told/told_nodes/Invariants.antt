use Rattle.std.proofs.Common.{◌≡◌, ◌<◌, All}
use Rattle.call_told.specs.Told.{told_nodes}
use Rattle.call_told.proofs.told.told_nodes.Given as goal

-- those of the predicates so far
abbrev pub invariant-loop-node : goal.invariant-loop-node
invariant-loop-node l = record {
  nodes : l.nodes.items ≡ told_nodes l.node l.places l.all;
  below : All (λ p. p < l.count) l.nodes.items;
}
