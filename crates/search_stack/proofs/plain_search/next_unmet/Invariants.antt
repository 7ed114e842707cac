use Rattle.std.proofs.Common.{◌-◌, length}
use Rattle.search_stack.specs.PlainSearch.{top_succs, top_begun}
use Rattle.search_stack.proofs.Driving.{IsBeginning}
use Rattle.search_stack.proofs.plain_search.next_unmet.Given as goal

abbrev pub invariant-edges : goal.invariant-edges
invariant-edges l = IsBeginning l.initial.search l.search

abbrev pub decreases-edges : goal.decreases-edges
decreases-edges l = length (top_succs l.search.stack) - top_begun l.search.stack
