use Rattle.std.proofs.Common.{refl}
use Rattle.call_edges.specs.DirectiveCalls.{no_caller}
use Rattle.call_edges.specs.PlacedSeen.{see_calls}
use Rattle.call_edges.proofs.AmongLemmas.{among_next, among_all}
use Rattle.call_edges.proofs.PlacedCallLemmas.{IsKeptCall, call_added, calls_kept}
use Rattle.call_edges.proofs.directives.push_calls_met.Goals as goal

pub target-callee-requires : goal.target-callee-requires
target-callee-requires c = c.requires c.loop-one.one-index _ c.loop-one-test.true

pub loop-one-preserved : goal.loop-one-preserved
loop-one-preserved c =
    let seen = c.args.program.now in
    let file = c.args.file in
    let calls = see_calls c.loop-one.calls.items in
    let new = see_calls c.push_call.new.calls.items in
    among_next (IsKeptCall seen file no_caller) c.args.met.now c.loop-one.one-index _ (see_calls c.args.calls.now.items) calls new c.loop-one-test.true
    c.loop-one.invariant
    (call_added seen file no_caller _ c.target-callee.result calls new c.target-callee.ensures (c.in_ok-push_call.ensures refl))

pub returns : goal.returns
returns c =
    let seen = c.args.program.now in
    let file = c.args.file in
    let met = c.args.met.now in
    let old = see_calls c.args.calls.now.items in
    let new = see_calls c.loop-one.calls.items in
    calls_kept seen file no_caller met old new
    (among_all (IsKeptCall seen file no_caller) met c.loop-one.one-index old new c.loop-one-test.false c.loop-one.invariant)
