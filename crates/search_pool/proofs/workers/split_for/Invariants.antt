use Rattle.std.proofs.Common.{◌≡◌, ◌+◌, length, All}
use Rattle.search_pool.specs.Driving.{IsIdlePass}
use Rattle.search_pool.proofs.workers.split_for.Given as goal

abbrev pub invariant-loop-job : goal.invariant-loop-job
invariant-loop-job l = IsIdlePass l.claims l.pass × (All (IsIdlePass l.claims) l.passes.items × (length l.passes.items + 1 ≡ l._job))
