use Rattle.std.proofs.Common.{◌≡◌, ℕ, ◌<◌, List, [], take, drop, length, subst, sym, ◌∙◌, arith}
use Rattle.std.proofs.lemmas.List.{take_at, take_more, get_or-take, length-take-le}
use Rattle.std.specs.Prelude.{Contains}
use Rattle.graph_law.specs.Graph.{lists_of}
use Rattle.graph_law.specs.Classes.{group_at}
use Rattle.graph_law.specs.Stamp.{IsStamped}
use Rattle.graph_law.proofs.GraphLaws.{group_read, within_lists}
use Rattle.graph_law.proofs.PlaceSteps.{places_push, others_push, all_below_from_apart}
use Rattle.graph_law.proofs.places.group_places.Goals as goal

pub stamp-requires : goal.stamp-requires
stamp-requires c =
    let n : ℕ = c.loop-place.place in
    let is : c.deref.result.now ≡ group_at (lists_of c.args.groups.now) n =
    group_read c.args.groups.now n c.index-groups-place.result c.deref.result.now c.loop-place-test.true c.index-groups-place.is
    c.deref.ensures.value in
    rw (c.deref_mut.ensures.value, c.loop-place.invariant.0.each)
    (all_below_from_apart c.args.count (lists_of c.args.groups.now) n c.deref.result.now is
    (within_lists c.args.groups.now n c.loop-place-test.true) c.requires)

pub loop-place-preserved : goal.loop-place-preserved
loop-place-preserved c =
    let groups : List (List ℕ) = lists_of c.args.groups.now in
    let n : ℕ = c.loop-place.place in
    let lt : n < length groups = within_lists c.args.groups.now n c.loop-place-test.true in
    let before : List (List ℕ) = take n groups in
    let long : length before ≡ n = length-take-le n groups (omega (arith, lt)) in
    let is : c.deref.result.now ≡ group_at groups n =
    group_read c.args.groups.now n c.index-groups-place.result c.deref.result.now c.loop-place-test.true c.index-groups-place.is
    c.deref.ensures.value in
    let new : List ℕ = c.stamp.new.table in
    let stamped : IsStamped (group_at groups n) n c.loop-place.places.items new = rw (is, c.deref_mut.ensures.value) at c.stamp.ensures in
    let whole : length new ≡ c.loop-place.places.len = stamped.each ∙ sym c.loop-place.places.ok.0 in
    let apart : (i p : ℕ) → i < length before → Contains (group_at before i) p → Contains (group_at groups n) p → ⊥ =
    λ i p within here there.
    let P : List ℕ → Type 0 = λ each. Contains each p in
    let first : i < n = omega (arith, within, long) in
    let same : i ≡ n = c.requires.once i n p (omega (arith, first, lt)) lt (subst P (get_or-take n groups i [] first) here) there in
    omega (arith, same, first) in
    rw (take_at new (drop (length new) c.loop-place.places.items) c.loop-place.places.len whole, take_more groups n [] lt) (
      places_push c.args.count before (group_at groups n) c.loop-place.places.items new n (sym long) apart c.loop-place.invariant.0 stamped,
      others_push before (group_at groups n) c.loop-place.places.items new n c.loop-place.invariant.1 stamped,
    )
