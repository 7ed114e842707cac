use Rattle.byte_names.specs.Names.{names_of}
use Rattle.component_answer.proofs.NamedNodes.{AreFound}
use Rattle.component_answer.proofs.starts.named_nodes.Given as goal

-- the nodes of the roots so far
abbrev pub invariant-loop-root : goal.invariant-loop-root
invariant-loop-root l = AreFound (names_of l.names) (names_of l.roots) l.root-index l.nodes.items
