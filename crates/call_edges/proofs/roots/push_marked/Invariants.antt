use Rattle.call_edges.specs.Goals.{Adds}
use Rattle.call_edges.proofs.PlainRoots.{IsDefinedBelow}
use Rattle.call_edges.proofs.roots.push_marked.Given as goal

-- the predicates so far
abbrev pub invariant-loop-node : goal.invariant-loop-node
invariant-loop-node l = Adds (IsDefinedBelow l.program l.node) l.fn.roots.items l.roots.items
