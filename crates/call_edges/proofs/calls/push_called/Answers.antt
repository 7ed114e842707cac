use Rattle.std.proofs.Common.{◌≡◌, map, get_or, ap, sym, ◌∙◌, subst, arith}
use Rattle.std.proofs.lemmas.List.{length-map, get_or-map}
use Rattle.call_edges.specs.Meant.{AreMeant}
use Rattle.call_edges.specs.Seen.{see_mets}
use Rattle.call_edges.specs.Bodies.{see_body, IsLight}
use Rattle.call_edges.proofs.AmongLemmas.{among_more, among_all}
use Rattle.call_edges.proofs.KeptMeanings.{none_meant}
use Rattle.call_edges.proofs.CallLemmas.{IsCalledIn, body_goes, bodies_go}
use Rattle.call_edges.proofs.calls.push_called.Goals as goal

pub walk_body-requires : goal.walk_body-requires
walk_body-requires c =
    let bodies = c.args.bodies.now in
    let k = c.loop-body.body-index in
    let body = c.body-item.result in
    let within = c.loop-body-test.true in
    let read : get_or (map see_body bodies) k (see_body body) ≡ see_body body = get_or-map see_body bodies k body (see_body body) within ∙ ap see_body (sym c.body-item.is) in
    subst IsLight read (c.requires k (see_body body) (omega (arith, within, length-map bodies see_body)))

pub push_targets-requires : goal.push_targets-requires
push_targets-requires c =
    let seen = c.args.program.now in
    subst (AreMeant seen) (sym c.deref.ensures.value) (c.in_ok-walk_body.ensures.meant (none_meant seen c.clear.new.self.items c.clear.ensures.items))

pub loop-body-preserved : goal.loop-body-preserved
loop-body-preserved c =
    let seen = c.args.program.now in
    let body = c.body-item.result in
    let out = c.loop-body.out.items in
    let called = c.push_targets.new.out.items in
    among_more (IsCalledIn seen) c.args.bodies.now c.loop-body.body-index body c.args.out.now.items out called c.loop-body-test.true c.body-item.is c.loop-body.invariant
    (body_goes seen (see_body body) c.walk_body.new.met.items (see_mets c.clear.new.self.items) out called (ap see_mets c.clear.ensures.items) c.in_ok-walk_body.ensures.met
    (rw c.deref.ensures.value at c.in_ok-push_targets.ensures))

pub returns : goal.returns
returns c =
    let seen = c.args.program.now in
    let bodies = c.args.bodies.now in
    let old = c.args.out.now.items in
    let out = c.loop-body.out.items in
    bodies_go seen bodies old out (among_all (IsCalledIn seen) bodies c.loop-body.body-index old out c.loop-body-test.false c.loop-body.invariant)
