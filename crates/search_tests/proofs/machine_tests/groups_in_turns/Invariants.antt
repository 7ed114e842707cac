use Rattle.std.specs.Prelude.{◌≡◌}
use Rattle.search_tests.proofs.machine_tests.groups_in_turns.Given as goal

abbrev pub invariant-turns : goal.invariant-turns
invariant-turns l = l.machine.lists ≡ l.graph.lists
