use Rattle.graph_law.specs.Graph.{lists_of}
use Rattle.search_stack.proofs.Driving.{IsThrough}
use Rattle.search_stack.proofs.plain_search.groups_plain.Given as goal

abbrev pub invariant-loop-root : goal.invariant-loop-root
invariant-loop-root g l = IsThrough (g.O.Opener.lists l.opener) l.roots l.root-index (lists_of l.groups.items) l.search
