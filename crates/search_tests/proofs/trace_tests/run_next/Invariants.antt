use Rattle.std.specs.Prelude.{◌≡◌}
use Rattle.group_release.specs.Book.{RunsBeside}
use Rattle.search_tests.proofs.trace_tests.run_next.Given as goal

abbrev pub invariant-steps : goal.invariant-steps
invariant-steps l = (l.book.lists ≡ l.graph.lists) × RunsBeside l.book l.search
