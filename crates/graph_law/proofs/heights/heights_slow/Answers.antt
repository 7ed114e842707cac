use Rattle.std.proofs.Common.{◌≡◌, ℕ, ◌<◌, ◌≤◌, List, get_or, length, refl, subst, arith}
use Rattle.std.specs.Prelude.{Contains}
use Rattle.graph_law.specs.Graph.{Calls, lists_of}
use Rattle.graph_law.specs.Classes.{GroupCalls, HasMember, group_at}
use Rattle.graph_law.specs.CallOrder.{IsCalleesFirst, IsJustAbove, MembersLeadTo}
use Rattle.graph_law.proofs.ClassLaws.{HasMember-call}
use Rattle.graph_law.proofs.GraphClasses.{apart_from_classes, few_classes, members_are_nodes}
use Rattle.graph_law.proofs.HeightLeads.{call_from_lead, lead_from_call, ordered_group}
use Rattle.graph_law.proofs.HeightSteps.{just_above_same, heights_more, heights_done}
use Rattle.graph_law.proofs.heights.heights_slow.Goals as goal

pub group_places-requires : goal.group_places-requires
group_places-requires c = rw c.count.ensures.count (apart_from_classes c.count.ensures.graph c.requires)

pub callees_first-requires-clause-apart : goal.callees_first-requires-clause-apart
callees_first-requires-clause-apart c = apart_from_classes c.count.ensures.graph c.requires

pub height_of-requires-clause-members : goal.height_of-requires-clause-members
height_of-requires-clause-members c =
    let places : List ℕ = c.deref-place-items.result.now in
    let n : ℕ = c.loop-place.place-index in
    let order : IsCalleesFirst (Calls c.args.graph.now.lists) (lists_of c.args.groups.now) places =
    rw (← c.deref-place-items.ensures.value) at c.in_ok-order.ensures in
    rw (ordered_group c.args.groups.now places order n c.loop-place-test.true c.index-groups-place.result c.deref.result.now
    c.index-groups-place.is c.deref.ensures.value)
    (members_are_nodes c.count.ensures.graph c.requires (get_or places n 0) (order.within n 0 c.loop-place-test.true))

pub height_of-requires-clause-known : goal.height_of-requires-clause-known
height_of-requires-clause-known c = λ p q member call.
    let groups : List (List ℕ) = lists_of c.args.groups.now in
    let places : List ℕ = c.deref-place-items.result.now in
    let n : ℕ = c.loop-place.place-index in
    let order : IsCalleesFirst (Calls c.args.graph.now.lists) groups places =
    rw (← c.deref-place-items.ensures.value) at c.in_ok-order.ensures in
    let is : c.deref.result.now ≡ group_at groups (get_or places n 0) =
    ordered_group c.args.groups.now places order n c.loop-place-test.true c.index-groups-place.result c.deref.result.now
    c.index-groups-place.is c.deref.ensures.value in
    let P : List ℕ → Type 0 = λ each. Contains each p in
    let of_caller : HasMember groups p =
    record { place = get_or places n 0; within = order.within n 0 c.loop-place-test.true; member = subst P is member } in
    let has : HasMember groups q = HasMember-call c.requires p q of_caller call in
    let at : get_or c.in_ok-places.places.items q 0 ≡ has.place = c.in_ok-places.ensures.members.at has.place q has.within has.member in
    rw (c.deref-in-loop-place.ensures.value, c.deref-in-loop-place-2.ensures.value)
    (omega (arith, at, has.within, c.loop-place.invariant.each))

pub height_of-requires-clause-low : goal.height_of-requires-clause-low
height_of-requires-clause-low c =
    let groups : List (List ℕ) = lists_of c.args.groups.now in
    let order : IsCalleesFirst (Calls c.args.graph.now.lists) groups c.deref-place-items.result.now =
    rw (← c.deref-place-items.ensures.value) at c.in_ok-order.ensures in
    let few : length groups ≤ length c.args.graph.now.lists = few_classes c.count.ensures.graph c.requires in
    rw c.deref-in-loop-place-2.ensures.value
    (λ k d lt. omega (arith, c.loop-place.invariant.low k d lt, c.loop-place-test.true, order.each, few, c.count.ensures.graph.small))

pub loop-place-preserved : goal.loop-place-preserved
loop-place-preserved c =
    let calls : ℕ → ℕ → Type 0 = Calls c.args.graph.now.lists in
    let groups : List (List ℕ) = lists_of c.args.groups.now in
    let places : List ℕ = c.deref-place-items.result.now in
    let n : ℕ = c.loop-place.place-index in
    let place : ℕ = get_or places n 0 in
    let order : IsCalleesFirst calls groups places = rw (← c.deref-place-items.ensures.value) at c.in_ok-order.ensures in
    let lt : place < length groups = order.within n 0 c.loop-place-test.true in
    let is : c.deref.result.now ≡ group_at groups place =
    ordered_group c.args.groups.now places order n c.loop-place-test.true c.index-groups-place.result c.deref.result.now
    c.index-groups-place.is c.deref.ensures.value in
    let leads : ℕ → Type 0 = MembersLeadTo c.args.graph.now.lists c.in_ok-places.places.items place (group_at groups place) in
    let heights : List ℕ = c.loop-place.heights.items in
    let over : IsJustAbove leads heights c.height_of.result =
    rw (is, c.deref-in-loop-place.ensures.value, c.deref-in-loop-place-2.ensures.value) at c.height_of.ensures in
    heights_more n heights place c.height_of.result order c.loop-place-test.true refl c.loop-place.invariant
    (just_above_same leads (GroupCalls calls groups place) heights c.height_of.result
    (call_from_lead c.requires c.in_ok-places.ensures.members place lt) (lead_from_call c.in_ok-places.ensures.members place) over)

pub returns : goal.returns
returns c =
    let order : IsCalleesFirst (Calls c.args.graph.now.lists) (lists_of c.args.groups.now) c.deref-place-items.result.now =
    rw (← c.deref-place-items.ensures.value) at c.in_ok-order.ensures in
    heights_done c.loop-place.place-index c.loop-place.heights.items order c.loop-place-test.false c.loop-place.invariant
