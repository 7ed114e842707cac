use Rattle.std.specs.Prelude.{ℕ, ◌<◌, false}
use Rattle.list_laws.specs.Counts.{times}
use Rattle.search_pool.specs.Worker.{IsSearching}
use Rattle.search_pool.proofs.edges.run_free.Given as goal

abbrev pub invariant-edges : goal.invariant-edges
invariant-edges g l =
    (goal.iterator-edges g).can_next l.iterator' × (goal.iterator-edges g).is_finite l.iterator' × IsSearching l.claims l.pass l.search false
    × ((x : ℕ) → 0 < times x l.initial.pass.view.seen → 0 < times x l.pass.view.seen)
