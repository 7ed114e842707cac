use Rattle.std.proofs.Common.{sym, subst}
use Rattle.call_edges.specs.Goals.{Adds}
use Rattle.call_edges.proofs.AmongLemmas.{among_next, among_all}
use Rattle.call_edges.proofs.CallLemmas.{HasTarget, adds_given, adds_not, kept_go}
use Rattle.call_edges.proofs.calls.push_targets.Goals as goal

pub target-requires : goal.target-requires
target-requires c = c.requires c.loop-one.one-index _ c.loop-one-test.true

pub loop-one-preserved-in_default : goal.loop-one-preserved-in_default
loop-one-preserved-in_default c =
    let seen = c.args.program.now in
    let out = c.loop-one.out.items in
    among_next (HasTarget seen) c.args.met.now c.loop-one.one-index _ c.args.out.now.items out out c.loop-one-test.true c.loop-one.invariant
    (adds_not _ out (sym c.in_default.ensures))

pub loop-one-preserved : goal.loop-one-preserved
loop-one-preserved c =
    let seen = c.args.program.now in
    let out = c.loop-one.out.items in
    let new = c.push.new.self.items in
    among_next (HasTarget seen) c.args.met.now c.loop-one.one-index _ c.args.out.now.items out new c.loop-one-test.true c.loop-one.invariant
    (subst (Adds _ out) (sym c.in_ok-push.ensures.items) (adds_given _ c.in-Some.callee out (sym c.in-Some.ensures)))

pub returns : goal.returns
returns c =
    let seen = c.args.program.now in
    let met = c.args.met.now in
    kept_go seen met c.args.out.now.items c.loop-one.out.items
    (among_all (HasTarget seen) met c.loop-one.one-index c.args.out.now.items c.loop-one.out.items c.loop-one-test.false c.loop-one.invariant)
