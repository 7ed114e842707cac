use Rattle.std.specs.Prelude.{◌≡◌}
use Rattle.search_tests.proofs.trace_tests.trace.Given as goal

abbrev pub invariant-searches : goal.invariant-searches
invariant-searches l = l.book.lists ≡ l.graph.lists
