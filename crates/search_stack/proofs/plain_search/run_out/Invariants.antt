use Rattle.std.proofs.Common.{◌+◌, ◌*◌, not}
use Rattle.std.specs.Prelude.{count_by}
use Rattle.graph_law.specs.Graph.{lists_of}
use Rattle.search_stack.specs.Stack.{height}
use Rattle.search_stack.proofs.Driving.{IsRunning}
use Rattle.search_stack.proofs.plain_search.run_out.Given as goal

abbrev pub invariant-steps : goal.invariant-steps
invariant-steps g l =
    IsRunning (g.O.Opener.lists l.opener) (lists_of l.initial.groups.items) (lists_of l.groups.items) l.initial.search l.search

abbrev pub decreases-steps : goal.decreases-steps
decreases-steps g l = 2 * count_by not l.search.seen + height l.search.stack
