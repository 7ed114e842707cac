use Rattle.std.proofs.Common.{◌≡◌, ℕ, List, ◌++◌, get_or, ap, subst, arith}
use Rattle.list_laws.specs.Counts.{times}
use Rattle.list_laws.proofs.Counting.{times-append}
use Rattle.node_claims.specs.Claims.{PassValue}
use Rattle.search_pool.specs.Worker.{EndsWell}
use Rattle.pool_tests.proofs.turn_tests.a_worker_goes_on_while_another_pass_has_the_turn.Goals as goal

-- what the worker has seen finished is seen by the pass that both became
pub finish-groups-requires-clause-seen : goal.finish-groups-requires-clause-seen
finish-groups-requires-clause-seen g c = λ k d lt.
    let root : ℕ = get_or c.in_ok-claims.claims.roots k d in
    let first : List ℕ = c.in-Finished.other.view.seen in
    let second : List ℕ = c.side_by_side-ended.result.1.0.view.seen in
    let well = subst (EndsWell c.in_ok-claims.claims) c.in-Finished.is c.side_by_side-ended.ensures.ended in
    let both : times root c.join-pass.result.view.seen ≡ times root (first ++ second) =
    ap (λ (pass : PassValue). times root pass.view.seen) c.join-pass.ensures in
    omega (arith, well.1.1 k d lt, both, times-append root first second)
