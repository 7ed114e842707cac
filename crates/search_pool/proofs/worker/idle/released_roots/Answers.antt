-- One more root is released.
use Rattle.std.proofs.Common.{◌<◌, List, ℕ, get_or, length, subst}
use Rattle.graph_law.specs.Classes.{HasMember}
use Rattle.group_release.specs.Released.{ReleasedGroups}
use Rattle.search_pool.proofs.worker.idle.released_roots.Goals as goal
use Rattle.search_pool.proofs.TurnIdling.{one_more_root}

pub loop-index-preserved : goal.loop-index-preserved
loop-index-preserved c =
    let lt : c.loop-index.index < length c.args.book.now.roots =
    subst (λ (roots : List ℕ). c.loop-index.index < length roots) c.roots-roots.ensures c.loop-index-test.true in
    let there : HasMember c.released.result.now.groups (get_or c.roots-roots.result.now c.loop-index.index 0) = c.holds.ensures.0 c.if-not-holds.false in
    let here : HasMember c.args.book.now.groups (get_or c.roots-roots.result.now c.loop-index.index 0) =
    subst (λ (r : ReleasedGroups). HasMember r.groups (get_or c.roots-roots.result.now c.loop-index.index 0)) c.released.ensures there in
    one_more_root c.args.book.now.groups c.args.book.now.roots c.loop-index.index lt
    (subst (λ roots. HasMember c.args.book.now.groups (get_or roots c.loop-index.index 0)) c.roots-roots.ensures here) c.loop-index.invariant
