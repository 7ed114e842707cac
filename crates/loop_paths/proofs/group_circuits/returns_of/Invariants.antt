use Rattle.graph_law.specs.Graph.{lists_of}
use Rattle.loop_paths.specs.Circuits.{circuits_of}
use Rattle.loop_paths.proofs.Returns.{IsReturning}
use Rattle.loop_paths.proofs.group_circuits.returns_of.Given as goal

abbrev pub invariant-loop-group : goal.invariant-loop-group
invariant-loop-group g l =
    IsReturning (g.O.Opener.lists l.opener) (lists_of l.groups) l.group-index (circuits_of l.found.items) l.seen
