use Rattle.std.specs.Prelude.{false}
use Rattle.search_pool.specs.Working.{IsAtWork}
use Rattle.search_pool.proofs.worker.work_in.Given as goal

-- the worker is between two turns
abbrev pub invariant-turns : goal.invariant-turns
invariant-turns g l =
    (goal.iterator-turns g).can_next l.iterator' × (goal.iterator-turns g).is_finite l.iterator' × IsAtWork l.claims l.worker false
