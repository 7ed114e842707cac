use Rattle.std.proofs.Common.{◌≡◌, ℕ, ◌<◌, List, [], length, take, get_or, ap, sym, subst, ◌∙◌, arith}
use Rattle.std.proofs.lemmas.List.{length-map, take_all, take_more}
use Rattle.std.proofs.lemmas.List.Elements.{Contains-get_or}
use Rattle.std.specs.Prelude.{Contains}
use Rattle.graph_law.specs.Classes.{group_at}
use Rattle.graph_law.specs.Graph.{Calls, lists_of}
use Rattle.graph_law.proofs.GraphLaws.{all_below_from_closed, group_read, length-lists_of}
use Rattle.effect_flow.specs.Carriers.{IsFirst, first_at}
use Rattle.effect_flow.specs.Seen.{see_flow, see_flows}
use Rattle.effect_flow.proofs.Found.{IsOfMember, callee_within, carrier_found, member_more, member_none, member_within}
use Rattle.effect_flow.proofs.carriers.flow_of.Goals as goal

pub expand-requires-clause-below : goal.expand-requires-clause-below
expand-requires-clause-below g c =
    let groups : List (List ℕ) = lists_of c.args.grouped.now.groups.now in
    let items : List ℕ = c.deref-member-items.result.now in
    let is : items ≡ group_at groups c.args.place =
    group_read c.args.grouped.now.groups.now c.args.place c.index-grouped-place.result items
    (omega (arith, c.requires.next.within, length-lists_of c.args.grouped.now.groups.now)) c.index-grouped-place.is
    (c.deref-member-items.ensures.value ∙ ap (λ vec. vec.items) (sym c.index-grouped-place.is)) in
    member_within c.requires.ready c.requires.next items c.loop-member.member-index is c.loop-member-test.true

pub bounds-grouped-member : goal.bounds-grouped-member
bounds-grouped-member g c =
    let groups : List (List ℕ) = lists_of c.args.grouped.now.groups.now in
    let items : List ℕ = c.deref-member-items.result.now in
    let is : items ≡ group_at groups c.args.place =
    group_read c.args.grouped.now.groups.now c.args.place c.index-grouped-place.result items
    (omega (arith, c.requires.next.within, length-lists_of c.args.grouped.now.groups.now)) c.index-grouped-place.is
    (c.deref-member-items.ensures.value ∙ ap (λ vec. vec.items) (sym c.index-grouped-place.is)) in
    omega (arith, member_within c.requires.ready c.requires.next items c.loop-member.member-index is c.loop-member-test.true, c.requires.ready.owned)

pub of-itself-requires : goal.of-itself-requires
of-itself-requires g c =
    let groups : List (List ℕ) = lists_of c.args.grouped.now.groups.now in
    let items : List ℕ = c.deref-member-items.result.now in
    let is : items ≡ group_at groups c.args.place =
    group_read c.args.grouped.now.groups.now c.args.place c.index-grouped-place.result items
    (omega (arith, c.requires.next.within, length-lists_of c.args.grouped.now.groups.now)) c.index-grouped-place.is
    (c.deref-member-items.ensures.value ∙ ap (λ vec. vec.items) (sym c.index-grouped-place.is)) in
    omega (arith, member_within c.requires.ready c.requires.next items c.loop-member.member-index is c.loop-member-test.true, c.requires.ready.few)

pub with_callees-flow-requires-clause-nodes : goal.with_callees-flow-requires-clause-nodes
with_callees-flow-requires-clause-nodes g c =
    let lists : List (List ℕ) = g.O.Opener.lists c.args.grouped.now.opener.now in
    let member : ℕ = get_or c.deref-member-items.result.now c.loop-member.member-index 0 in
    let is : c.deref.result.now ≡ get_or lists member [] = c.deref.ensures.value ∙ c.in_ok-expand.ensures.ok in
    all_below_from_closed lists member (length c.args.grouped.now.places.now) c.deref.result.now is c.requires.ready.placed.each c.requires.ready.closed

pub with_callees-flow-requires-clause-known : goal.with_callees-flow-requires-clause-known
with_callees-flow-requires-clause-known g c = λ k d lt.
    let lists : List (List ℕ) = g.O.Opener.lists c.args.grouped.now.opener.now in
    let groups : List (List ℕ) = lists_of c.args.grouped.now.groups.now in
    let items : List ℕ = c.deref-member-items.result.now in
    let n : ℕ = c.loop-member.member-index in
    let is : items ≡ group_at groups c.args.place =
    group_read c.args.grouped.now.groups.now c.args.place c.index-grouped-place.result items
    (omega (arith, c.requires.next.within, length-lists_of c.args.grouped.now.groups.now)) c.index-grouped-place.is
    (c.deref-member-items.ensures.value ∙ ap (λ vec. vec.items) (sym c.index-grouped-place.is)) in
    let also : c.deref.result.now ≡ get_or lists (get_or items n 0) [] = c.deref.ensures.value ∙ c.in_ok-expand.ensures.ok in
    let call : Calls lists (get_or items n 0) (get_or c.deref.result.now k d) =
    subst (λ each. Contains each (get_or c.deref.result.now k d)) also (Contains-get_or c.deref.result.now k d lt) in
    let low : get_or c.args.grouped.now.places.now (get_or c.deref.result.now k d) 0 < length (see_flows c.args.flows.now) =
    callee_within c.requires.ready c.requires.next items n (get_or c.deref.result.now k d) is c.loop-member-test.true call in
    omega (arith, low, length-map c.args.flows.now see_flow)

pub loop-member-init : goal.loop-member-init
loop-member-init g c = λ kind low.
    member_none (g.O.Opener.lists c.args.grouped.now.opener.now) c.args.grouped.now.own.now c.args.grouped.now.places.now c.args.place (see_flows c.args.flows.now) kind
    (first_at (see_flow c.none-flow.result) kind) (c.none-flow.ensures kind low)

pub loop-member-preserved : goal.loop-member-preserved
loop-member-preserved g c = λ kind low.
    let lists : List (List ℕ) = g.O.Opener.lists c.args.grouped.now.opener.now in
    let items : List ℕ = c.deref-member-items.result.now in
    let n : ℕ = c.loop-member.member-index in
    let member : ℕ = get_or items n 0 in
    let also : c.deref.result.now ≡ get_or lists member [] = c.deref.ensures.value ∙ c.in_ok-expand.ensures.ok in
    rw (take_more items n 0 c.loop-member-test.true)
    (member_more lists c.args.grouped.now.own.now c.args.grouped.now.places.now c.args.place (see_flows c.args.flows.now) kind (take n items) member
    (first_at (see_flow c.loop-member.flow) kind) (first_at (see_flow c.of-itself.result) kind) (first_at (see_flow c.lesser-both.result) kind)
    (first_at (see_flow c.with_callees-flow.result) kind) (c.loop-member.invariant kind low) (c.of-itself.ensures kind low)
    (c.lesser-both.ensures kind low) (rw also at (c.with_callees-flow.ensures kind low)))

pub returns : goal.returns
returns g c = λ kind low.
    let lists : List (List ℕ) = g.O.Opener.lists c.args.grouped.now.opener.now in
    let groups : List (List ℕ) = lists_of c.args.grouped.now.groups.now in
    let items : List ℕ = c.deref-member-items.result.now in
    let is : items ≡ group_at groups c.args.place =
    group_read c.args.grouped.now.groups.now c.args.place c.index-grouped-place.result items
    (omega (arith, c.requires.next.within, length-lists_of c.args.grouped.now.groups.now)) c.index-grouped-place.is
    (c.deref-member-items.ensures.value ∙ ap (λ vec. vec.items) (sym c.index-grouped-place.is)) in
    let all : take c.loop-member.member-index items ≡ group_at groups c.args.place = take_all c.loop-member.member-index items c.loop-member-test.false ∙ is in
    carrier_found lists c.args.grouped.now.own.now groups c.args.grouped.now.places.now (see_flows c.args.flows.now) c.args.place kind (first_at (see_flow c.loop-member.flow) kind)
    c.requires.ready c.requires.next low
    (subst
    (λ members. IsFirst (IsOfMember lists c.args.grouped.now.own.now c.args.grouped.now.places.now c.args.place (see_flows c.args.flows.now) kind members) (first_at (see_flow c.loop-member.flow) kind))
    all (c.loop-member.invariant kind low))
