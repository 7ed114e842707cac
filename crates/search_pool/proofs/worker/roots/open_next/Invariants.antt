use Rattle.std.proofs.Common.{◌≡◌, ◌-◌, length, false}
use Rattle.search_stack.specs.Stack.{size}
use Rattle.search_pool.specs.Working.{ClaimsOn, IsAtWork}
use Rattle.search_pool.proofs.worker.roots.open_next.Given as goal

-- the worker is idle, and has claimed the roots before this one
abbrev pub invariant-roots : goal.invariant-roots
invariant-roots g l =
    IsAtWork l.claims l.worker false × ((size l.worker.search.stack ≡ 0) × ClaimsOn l.initial.worker.stretch l.worker.stretch l.worker.pass)

abbrev pub decreases-roots : goal.decreases-roots
decreases-roots g l = length l.worker.stretch.roots.items - l.worker.stretch.next
