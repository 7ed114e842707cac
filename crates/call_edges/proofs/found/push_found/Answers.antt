use Rattle.std.proofs.Common.{sym, ◌∙◌, subst}
use Rattle.call_edges.specs.Goals.{Adds}
use Rattle.call_edges.specs.PlacedSeen.{see_calls}
use Rattle.call_edges.proofs.AmongLemmas.{among_next, among_all}
use Rattle.call_edges.proofs.CallLemmas.{HasTarget, adds_given, adds_not, kept_go}
use Rattle.call_edges.proofs.PlacedCallLemmas.{IsKeptCall, call_added, calls_kept}
use Rattle.call_edges.proofs.found.push_found.Goals as goal

pub target-callee-requires : goal.target-callee-requires
target-callee-requires c = c.requires c.loop-one.one-index _ c.loop-one-test.true

pub loop-one-preserved-in_default : goal.loop-one-preserved-in_default
loop-one-preserved-in_default c =
    let seen = c.args.program.now in
    let met = c.args.met.now in
    let i = c.loop-one.one-index in
    let file = c.args.file in
    let node = c.args.opening.node in
    let callees = c.loop-one.found.callees.items in
    let calls = see_calls c.loop-one.found.calls.items in
    let new = see_calls c.push_call.new.calls.items in
    record {
      callees =
          among_next (HasTarget seen) met i _ c.args.found.now.callees.items callees callees c.loop-one-test.true c.loop-one.invariant.callees
          (adds_not _ callees (sym c.target-callee.ensures ∙ c.in_default.is));
      calls = λ keep.
          among_next (IsKeptCall seen file node) met i _ (see_calls c.args.found.now.calls.items) calls new c.loop-one-test.true (c.loop-one.invariant.calls keep)
          (call_added seen file node _ c.target-callee.result calls new c.target-callee.ensures (c.in_ok-push_call.ensures keep));
    }

pub loop-one-preserved : goal.loop-one-preserved
loop-one-preserved c =
    let seen = c.args.program.now in
    let met = c.args.met.now in
    let i = c.loop-one.one-index in
    let file = c.args.file in
    let node = c.args.opening.node in
    let callees = c.loop-one.found.callees.items in
    let callees_then = c.push.new.self.items in
    let calls = see_calls c.loop-one.found.calls.items in
    let new = see_calls c.push_call.new.calls.items in
    record {
      callees =
          among_next (HasTarget seen) met i _ c.args.found.now.callees.items callees callees_then c.loop-one-test.true c.loop-one.invariant.callees
          (subst (Adds _ callees) (sym c.in_ok-push.ensures.items) (adds_given _ c.in-Some.callee callees (sym c.target-callee.ensures ∙ c.in-Some.is)));
      calls = λ keep.
          among_next (IsKeptCall seen file node) met i _ (see_calls c.args.found.now.calls.items) calls new c.loop-one-test.true (c.loop-one.invariant.calls keep)
          (call_added seen file node _ c.target-callee.result calls new c.target-callee.ensures (c.in_ok-push_call.ensures keep));
    }

pub returns-clause-callees : goal.returns-clause-callees
returns-clause-callees c =
    let seen = c.args.program.now in
    let met = c.args.met.now in
    kept_go seen met c.args.found.now.callees.items c.loop-one.found.callees.items
    (among_all (HasTarget seen) met c.loop-one.one-index c.args.found.now.callees.items c.loop-one.found.callees.items c.loop-one-test.false c.loop-one.invariant.callees)

pub returns-clause-calls : goal.returns-clause-calls
returns-clause-calls c kept =
    let seen = c.args.program.now in
    let met = c.args.met.now in
    let old = see_calls c.args.found.now.calls.items in
    let new = see_calls c.loop-one.found.calls.items in
    calls_kept seen c.args.file c.args.opening.node met old new
    (among_all (IsKeptCall seen c.args.file c.args.opening.node) met c.loop-one.one-index old new c.loop-one-test.false (c.loop-one.invariant.calls kept))
