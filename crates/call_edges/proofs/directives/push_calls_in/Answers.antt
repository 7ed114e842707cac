use Rattle.std.proofs.Common.{◌≡◌, map, get_or, ap, sym, ◌∙◌, subst, arith}
use Rattle.std.proofs.lemmas.List.{length-map, get_or-map}
use Rattle.call_edges.specs.declared.body.Body.{Body as BodyKept}
use Rattle.call_edges.specs.Bodies.{see_body, IsLight}
use Rattle.call_edges.specs.Calls.{IsAmong}
use Rattle.call_edges.specs.CallPlaces.{CallAt, IsCalledIn}
use Rattle.call_edges.specs.DirectiveCalls.{no_caller}
use Rattle.call_edges.specs.Meant.{AreMeant}
use Rattle.call_edges.specs.PlacedSeen.{see_calls}
use Rattle.call_edges.specs.Seen.{see_mets}
use Rattle.call_edges.proofs.AddsLemmas.{adds_as}
use Rattle.call_edges.proofs.AmongLemmas.{among_more, among_all, among_map}
use Rattle.call_edges.proofs.KeptMeanings.{none_meant}
use Rattle.call_edges.proofs.PlacedCallLemmas.{body_called}
use Rattle.call_edges.proofs.directives.push_calls_in.Goals as goal

pub walk_body-requires : goal.walk_body-requires
walk_body-requires c =
    let goals = c.args.goals.now in
    let k = c.loop-body.body-index in
    let body = c.body-item.result in
    let within = c.loop-body-test.true in
    let read : get_or (map see_body goals) k (see_body body) ≡ see_body body = get_or-map see_body goals k body (see_body body) within ∙ ap see_body (sym c.body-item.is) in
    subst IsLight read (c.requires k (see_body body) (omega (arith, within, length-map goals see_body)))

pub push_calls_met-requires : goal.push_calls_met-requires
push_calls_met-requires c =
    let seen = c.args.program.now in
    subst (AreMeant seen) (sym c.deref.ensures.value) (c.in_ok-walk_body.ensures.meant (none_meant seen c.clear.new.self.items c.clear.ensures.items))

pub loop-body-preserved : goal.loop-body-preserved
loop-body-preserved c =
    let seen = c.args.program.now in
    let body = c.body-item.result in
    let calls = see_calls c.loop-body.calls.items in
    let new = see_calls c.push_calls_met.new.calls.items in
    let Placed : BodyKept → CallAt → Type 0 = λ one. IsCalledIn seen no_caller (see_body one) in
    among_more Placed c.args.goals.now c.loop-body.body-index body (see_calls c.args.calls.now.items) calls new c.loop-body-test.true c.body-item.is
    c.loop-body.invariant
    (body_called seen no_caller (see_body body) c.walk_body.new.met.items (see_mets c.clear.new.self.items) calls new (ap see_mets c.clear.ensures.items)
    c.in_ok-walk_body.ensures.met (rw c.deref.ensures.value at c.in_ok-push_calls_met.ensures))

pub returns : goal.returns
returns c =
    let seen = c.args.program.now in
    let goals = c.args.goals.now in
    let old = see_calls c.args.calls.now.items in
    let new = see_calls c.loop-body.calls.items in
    let Placed : BodyKept → CallAt → Type 0 = λ one. IsCalledIn seen no_caller (see_body one) in
    adds_as (IsAmong Placed goals) (IsAmong (IsCalledIn seen no_caller) (map see_body goals)) old new
    (λ m. (among_map (IsCalledIn seen no_caller) see_body goals m).1) (λ m. (among_map (IsCalledIn seen no_caller) see_body goals m).0)
    (among_all Placed goals c.loop-body.body-index old new c.loop-body-test.false c.loop-body.invariant)
