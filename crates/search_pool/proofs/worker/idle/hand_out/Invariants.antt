use Rattle.std.proofs.Common.{◌≡◌, length}
use Rattle.search_pool.proofs.worker.idle.hand_out.Given as goal
use Rattle.search_pool.proofs.TurnIdling.{HandsOut}

-- so many roots were handed out
abbrev pub invariant-loop-turn : goal.invariant-loop-turn
invariant-loop-turn l =
    HandsOut l.fn.book l.book l.stretch.roots.items × ((length l.stretch.roots.items ≡ l._turn) × (l.stretch.next ≡ 0))
