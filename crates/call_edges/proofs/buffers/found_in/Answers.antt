use Rattle.std.proofs.Common.{◌≡◌, map, get_or, refl, ap, sym, ◌∙◌, subst, arith}
use Rattle.std.proofs.lemmas.List.{length-map, get_or-map}
use Rattle.import_rules.specs.Program.{Seen}
use Rattle.call_edges.specs.Goals.{AddsMet}
use Rattle.call_edges.specs.ProgramRows.{rows_of}
use Rattle.call_edges.specs.Meant.{AreMeant}
use Rattle.call_edges.specs.Seen.{see_mets}
use Rattle.call_edges.specs.declared.body.Body.{Body as BodyKept}
use Rattle.call_edges.specs.Bodies.{see_body, IsLight}
use Rattle.call_edges.specs.Calls.{IsAmong}
use Rattle.call_edges.specs.CallPlaces.{CallAt, IsCalledIn as IsPlacedIn}
use Rattle.call_edges.specs.PlacedSeen.{see_calls}
use Rattle.call_edges.proofs.AddsLemmas.{adds_as}
use Rattle.call_edges.proofs.AmongLemmas.{among_more, among_all, among_map}
use Rattle.call_edges.proofs.HomeLemmas.{home_at}
use Rattle.call_edges.proofs.KeptMeanings.{none_meant}
use Rattle.call_edges.proofs.CallLemmas.{IsCalledIn, body_goes, bodies_go}
use Rattle.call_edges.proofs.FaultLemmas.{IsSeenFault, body_faults, seen_faults}
use Rattle.call_edges.proofs.PlacedCallLemmas.{body_called}
use Rattle.call_edges.proofs.buffers.found_in.Goals as goal

pub walk_body_home-requires-clause-light : goal.walk_body_home-requires-clause-light
walk_body_home-requires-clause-light c =
    let bodies = c.args.bodies.now in
    let k = c.loop-body.body-index in
    let body = c.body-item.result in
    let within = c.loop-body-test.true in
    let read : get_or (map see_body bodies) k (see_body body) ≡ see_body body = get_or-map see_body bodies k body (see_body body) within ∙ ap see_body (sym c.body-item.is) in
    subst IsLight read (c.requires.light k (see_body body) (omega (arith, within, length-map bodies see_body)))

pub walk_body_home-requires-clause-home : goal.walk_body_home-requires-clause-home
walk_body_home-requires-clause-home c =
    let at_home = home_at c.args.program.now c.args.bodies.now c.loop-body.body-index c.body-item.result c.requires.home c.loop-body-test.true c.body-item.is in
    record { program = refl; module_ = at_home.module_; names_ = at_home.names_ }

pub push_found-requires : goal.push_found-requires
push_found-requires c =
    let seen = c.args.program.now in
    let body = c.body-item.result in
    let at_home = home_at seen c.args.bodies.now c.loop-body.body-index body c.requires.home c.loop-body-test.true c.body-item.is in
    let P : Seen → Type 0 = λ s. AreMeant s c.walk_body_home.new.met.items in
    subst (AreMeant seen) (sym c.deref.ensures.value)
    (subst P at_home.program (c.in_ok-walk_body_home.ensures.meant (none_meant body.home.program.now c.clear.new.self.items c.clear.ensures.items)))

pub loop-body-preserved : goal.loop-body-preserved
loop-body-preserved c =
    let seen = c.args.program.now in
    let bodies = c.args.bodies.now in
    let k = c.loop-body.body-index in
    let body = c.body-item.result in
    let met = c.walk_body_home.new.met.items in
    let empty = ap see_mets c.clear.ensures.items in
    let at_home = home_at seen bodies k body c.requires.home c.loop-body-test.true c.body-item.is in
    let P : Seen → Type 0 = λ s. AddsMet (rows_of s) (see_body body).at (see_mets c.clear.new.self.items) (see_mets met) in
    let walked : P seen = subst P at_home.program c.in_ok-walk_body_home.ensures.met in
    let callees = c.loop-body.found.callees.items in
    let calls = see_calls c.loop-body.found.calls.items in
    let faults = c.loop-body.faults.items in
    let called = c.push_found.new.found.callees.items in
    let kept = see_calls c.push_found.new.found.calls.items in
    let placed = c.push_places.new.places.items in
    let so_far = c.loop-body.invariant in
    let added = rw c.deref.ensures.value at c.in_ok-push_found.ensures in
    let Placed : BodyKept → CallAt → Type 0 = λ one. IsPlacedIn seen c.args.opening.node (see_body one) in record {
      callees =
          among_more (IsCalledIn seen) bodies k body c.args.found.now.callees.items callees called c.loop-body-test.true c.body-item.is so_far.callees
          (body_goes seen (see_body body) met (see_mets c.clear.new.self.items) callees called empty walked added.callees);
      calls = λ keep.
          among_more Placed bodies k body (see_calls c.args.found.now.calls.items) calls kept c.loop-body-test.true c.body-item.is (so_far.calls keep)
          (body_called seen c.args.opening.node (see_body body) met (see_mets c.clear.new.self.items) calls kept empty walked (added.calls keep));
      faults =
          among_more (IsSeenFault (rows_of c.args.program.now)) bodies k body c.args.faults.now.items faults placed c.loop-body-test.true c.body-item.is so_far.faults
          (body_faults (rows_of c.args.program.now) (see_body body) met (see_mets c.clear.new.self.items) faults placed empty walked
          (rw c.deref-in-loop-body.ensures.value at c.in_ok-push_places.ensures));
    }

pub returns-clause-callees : goal.returns-clause-callees
returns-clause-callees c =
    let seen = c.args.program.now in
    let bodies = c.args.bodies.now in
    let callees = c.loop-body.found.callees.items in
    bodies_go seen bodies c.args.found.now.callees.items callees
    (among_all (IsCalledIn seen) bodies c.loop-body.body-index c.args.found.now.callees.items callees c.loop-body-test.false c.loop-body.invariant.callees)

pub returns-clause-calls : goal.returns-clause-calls
returns-clause-calls c keep =
    let seen = c.args.program.now in
    let bodies = c.args.bodies.now in
    let node = c.args.opening.node in
    let Placed : BodyKept → CallAt → Type 0 = λ one. IsPlacedIn seen node (see_body one) in
    let old = see_calls c.args.found.now.calls.items in
    let new = see_calls c.loop-body.found.calls.items in
    adds_as (IsAmong Placed bodies) (IsAmong (IsPlacedIn seen node) (map see_body bodies)) old new
    (λ m. (among_map (IsPlacedIn seen node) see_body bodies m).1) (λ m. (among_map (IsPlacedIn seen node) see_body bodies m).0)
    (among_all Placed bodies c.loop-body.body-index old new c.loop-body-test.false (c.loop-body.invariant.calls keep))

pub returns-clause-faults : goal.returns-clause-faults
returns-clause-faults c =
    let bodies = c.args.bodies.now in
    let faults = c.loop-body.faults.items in
    let old = c.args.faults.now.items in
    seen_faults (rows_of c.args.program.now) bodies old faults (among_all (IsSeenFault (rows_of c.args.program.now)) bodies c.loop-body.body-index old faults c.loop-body-test.false c.loop-body.invariant.faults)
