use Rattle.std.proofs.Common.{◌≡◌, ◌-◌, ◌∙◌, sym, ap, subst, arith}
use Rattle.std.proofs.lemmas.Bool.{both_ways}
use Rattle.std.specs.Prelude.{false}
use Rattle.graph_law.specs.Graph.{lists_of}
use Rattle.graph_law.proofs.GraphLaws.{lists_of-push}
use Rattle.search_stack.specs.ArrayFields.{ArrayValue}
use Rattle.search_stack.specs.Search.{below_frame, retreated}
use Rattle.search_stack.specs.Stack.{Stack, top}
use Rattle.search_stack.proofs.Changes.{Keeps, Retreats}
use Rattle.search_stack.proofs.Driving.{two_frames}
use Rattle.search_stack.proofs.Released.{way_release}
use Rattle.search_stack.proofs.Steps.{keeps, retreats}
use Rattle.search_stack.proofs.UnderWay.{same_retreats, way_same}
use Rattle.search_stack.proofs.plain_search.finish_top.Goals as goal

pub returns-then-not-is_ripe-clause-height : goal.returns-then-not-is_ripe-clause-height
returns-then-not-is_ripe-clause-height c =
    let s : Stack = c.args.search.now.stack in
    let two = two_frames c.is_ripe.ensures.shaped c.requires (λ ripe. both_ways c.is_ripe.result c.if-not-is_ripe.true (c.is_ripe.ensures.ripe.1 ripe)) in
    let is : c.retreat.new.self.stack ≡ retreated s = ap (λ (value : ArrayValue). value.stack) c.retreat.ensures.retreated in
    let after = subst (λ t. Retreats s t (top s - 1)) (sym is) (retreats s two) in
    omega (arith, after.height_is, two)

pub returns-then-not-is_ripe-clause-under_way : goal.returns-then-not-is_ripe-clause-under_way
returns-then-not-is_ripe-clause-under_way c = λ lists roots seen way.
    let s : Stack = c.args.search.now.stack in
    let two = two_frames c.is_ripe.ensures.shaped c.requires (λ ripe. both_ways c.is_ripe.result c.if-not-is_ripe.true (c.is_ripe.ensures.ripe.1 ripe)) in
    let is : c.retreat.new.self.stack ≡ retreated s = ap (λ (value : ArrayValue). value.stack) c.retreat.ensures.retreated in
    let after = subst (λ t. Retreats s t (top s - 1)) (sym is) (retreats s two) in
    way_same way false (same_retreats after) (c.retreat.ensures.good lists roots way.finished way.good)

pub returns-clause-height : goal.returns-clause-height
returns-clause-height c =
    let s : Stack = c.args.search.now.stack in
    let is : c.take_ripe.new.self.stack ≡ below_frame s (top s) = ap (λ (value : ArrayValue). value.stack) c.in_ok-group.ensures.taken in
    let kept = subst (λ t. Keeps s t (top s)) (sym is) (keeps s (top s) c.is_ripe.ensures.shaped (omega (arith, c.requires.some))) in
    omega (arith, kept.height_is, c.requires.some)

pub returns-clause-under_way : goal.returns-clause-under_way
returns-clause-under_way c = λ lists roots seen way.
    let s : Stack = c.args.search.now.stack in
    let is : c.take_ripe.new.self.stack ≡ below_frame s (top s) = ap (λ (value : ArrayValue). value.stack) c.in_ok-group.ensures.taken in
    let kept = subst (λ t. Keeps s t (top s)) (sym is) (keeps s (top s) c.is_ripe.ensures.shaped (omega (arith, c.requires.some))) in
    let groups_are = ap lists_of c.in_ok-push.ensures.items ∙ lists_of-push c.args.groups.now.items c.sort_unstable.new.self in
    rw groups_are
    (way_release c.in_ok-group.group.items c.sort_unstable.new.self.items way kept c.in_ok-group.ensures.group
    (c.in_ok-group.ensures.releasable lists roots way.finished way.good) (c.in_ok-group.ensures.good lists roots way.finished way.good)
    c.sort_unstable.ensures.permutation c.sort_unstable.ensures.sorted)
