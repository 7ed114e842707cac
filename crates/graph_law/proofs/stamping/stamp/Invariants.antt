use Rattle.std.proofs.Common.{take}
use Rattle.graph_law.specs.Stamp.{IsStamped}
use Rattle.graph_law.proofs.stamping.stamp.Given as goal

abbrev pub invariant-loop-node : goal.invariant-loop-node
invariant-loop-node g l = IsStamped (take l.node-index l.nodes) l.value l.initial.table l.table
