use Rattle.std.proofs.Common.{sym, subst}
use Rattle.call_edges.specs.Goals.{Adds}
use Rattle.call_edges.proofs.AmongLemmas.{among_next, among_all}
use Rattle.call_edges.proofs.FaultLemmas.{IsKeptFault, kept_one, kept_none, kept_all}
use Rattle.call_edges.proofs.faults.push_places.Goals as goal

pub loop-one-preserved-in_default : goal.loop-one-preserved-in_default
loop-one-preserved-in_default c =
    let places = c.loop-one.places.items in
    among_next (IsKeptFault c.args.file) c.args.met.now c.loop-one.one-index _ c.args.places.now.items places places c.loop-one-test.true c.loop-one.invariant
    (kept_none c.args.file _ places (sym c.in_default.ensures))

pub loop-one-preserved : goal.loop-one-preserved
loop-one-preserved c =
    let places = c.loop-one.places.items in
    let new = c.push.new.self.items in
    among_next (IsKeptFault c.args.file) c.args.met.now c.loop-one.one-index _ c.args.places.now.items places new c.loop-one-test.true c.loop-one.invariant
    (subst (Adds _ places) (sym c.in_ok-push.ensures.items) (kept_one c.args.file c.in-Some.at _ places (sym c.in-Some.ensures)))

pub returns : goal.returns
returns c =
    let met = c.args.met.now in
    kept_all c.args.file met c.args.places.now.items c.loop-one.places.items
    (among_all (IsKeptFault c.args.file) met c.loop-one.one-index c.args.places.now.items c.loop-one.places.items c.loop-one-test.false c.loop-one.invariant)
