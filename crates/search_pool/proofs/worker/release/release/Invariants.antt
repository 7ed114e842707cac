use Rattle.search_stack.specs.Search.{IsRipe}
use Rattle.search_pool.specs.Working.{HasTurn}
use Rattle.search_pool.proofs.worker.release.release.Given as goal

-- the worker has the turn, and the top segment is ripe
abbrev pub invariant-groups : goal.invariant-groups
invariant-groups g l =
    (goal.iterator-groups g).can_next l.iterator' × (goal.iterator-groups g).is_finite l.iterator' × HasTurn l.claims l.turn l.search l.seen_roots
    × IsRipe l.search.stack
