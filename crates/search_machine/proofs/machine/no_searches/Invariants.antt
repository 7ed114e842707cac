use Rattle.std.specs.Prelude.{◌≡◌, None, replicate}
use Rattle.search_machine.proofs.machine.no_searches.Given as goal

abbrev pub invariant-places : goal.invariant-places
invariant-places l = l.searches.items ≡ replicate l._place None
