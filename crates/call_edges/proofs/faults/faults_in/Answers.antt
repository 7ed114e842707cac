use Rattle.std.proofs.Common.{◌≡◌, [], map, get_or, ap, sym, ◌∙◌, subst, arith}
use Rattle.std.proofs.lemmas.List.{length-map, get_or-map}
use Rattle.call_edges.specs.ProgramRows.{rows_of}
use Rattle.call_edges.specs.Seen.{see_mets}
use Rattle.call_edges.specs.Bodies.{see_body, IsLight}
use Rattle.call_edges.proofs.AmongLemmas.{among_more, among_all}
use Rattle.call_edges.proofs.FaultLemmas.{IsSeenFault, body_faults, bodies_faults}
use Rattle.call_edges.proofs.faults.faults_in.Goals as goal

pub walk_body-requires : goal.walk_body-requires
walk_body-requires c =
    let bodies = c.args.bodies.now in
    let k = c.loop-body.body-index in
    let body = c.body-item.result in
    let within = c.loop-body-test.true in
    let read : get_or (map see_body bodies) k (see_body body) ≡ see_body body = get_or-map see_body bodies k body (see_body body) within ∙ ap see_body (sym c.body-item.is) in
    subst IsLight read (c.requires k (see_body body) (omega (arith, within, length-map bodies see_body)))

pub loop-body-preserved : goal.loop-body-preserved
loop-body-preserved c =
    let faults = c.loop-body.faults.items in
    let new = c.push_places.new.places.items in
    among_more (IsSeenFault (rows_of c.args.program.now)) c.args.bodies.now c.loop-body.body-index c.body-item.result [] faults new c.loop-body-test.true c.body-item.is c.loop-body.invariant
    (body_faults (rows_of c.args.program.now) (see_body c.body-item.result) c.walk_body.new.met.items (see_mets c.clear.new.self.items) faults new (ap see_mets c.clear.ensures.items) c.in_ok-walk_body.ensures.met
    (rw c.deref.ensures.value at c.in_ok-push_places.ensures))

pub returns : goal.returns
returns c =
    let bodies = c.args.bodies.now in
    bodies_faults (rows_of c.args.program.now) bodies c.loop-body.faults.items (among_all (IsSeenFault (rows_of c.args.program.now)) bodies c.loop-body.body-index [] c.loop-body.faults.items c.loop-body-test.false c.loop-body.invariant)
