use Rattle.std.proofs.Common.{◌≡◌, map, get_or, ap, sym, ◌∙◌, subst, arith}
use Rattle.std.proofs.lemmas.List.{length-map, get_or-map}
use Rattle.call_edges.specs.ProgramRows.{rows_of}
use Rattle.call_edges.specs.Seen.{see_mets}
use Rattle.call_edges.specs.Bodies.{see_body, IsLight}
use Rattle.call_edges.proofs.AmongLemmas.{among_more, among_all}
use Rattle.call_edges.proofs.BodyMets.{IsSeenMet, bodies_met}
use Rattle.call_edges.proofs.goals_met.push_met.Goals as goal

pub walk_body-requires : goal.walk_body-requires
walk_body-requires c =
    let bodies = c.args.bodies.now in
    let k = c.loop-body.body-index in
    let body = c.body-item.result in
    let within = c.loop-body-test.true in
    let read : get_or (map see_body bodies) k (see_body body) ≡ see_body body = get_or-map see_body bodies k body (see_body body) within ∙ ap see_body (sym c.body-item.is) in
    subst IsLight read (c.requires k (see_body body) (omega (arith, within, length-map bodies see_body)))

pub loop-body-preserved : goal.loop-body-preserved
loop-body-preserved c =
    let T = rows_of c.args.program.now in
    record {
      met = among_more (IsSeenMet T) c.args.bodies.now c.loop-body.body-index c.body-item.result (see_mets c.args.met.now.items) (see_mets c.loop-body.met.items)
          (see_mets c.walk_body.new.met.items) c.loop-body-test.true c.body-item.is c.loop-body.invariant.met c.in_ok-walk_body.ensures.met;
      meant = λ old. c.in_ok-walk_body.ensures.meant (c.loop-body.invariant.meant old);
    }

pub returns-clause-met : goal.returns-clause-met
returns-clause-met c =
    let T = rows_of c.args.program.now in
    let bodies = c.args.bodies.now in
    let old = see_mets c.args.met.now.items in
    let new = see_mets c.loop-body.met.items in
    bodies_met T bodies old new (among_all (IsSeenMet T) bodies c.loop-body.body-index old new c.loop-body-test.false c.loop-body.invariant.met)
