use Rattle.std.proofs.Common.{[], get_or, refl}
use Rattle.call_edges.specs.Calls.{IsAmong}
use Rattle.call_edges.specs.CallPlaces.{IsCallOf}
use Rattle.call_edges.specs.PlacedSeen.{see_calls}
use Rattle.call_edges.proofs.AmongLemmas.{among_next, among_all}
use Rattle.call_edges.proofs.CallLemmas.{adds_from_none}
use Rattle.call_edges.proofs.KeptCallLemmas.{calls_behind}
use Rattle.call_edges.proofs.placed_calls.gather_calls.Goals as goal

pub loop-caller-preserved : goal.loop-caller-preserved
loop-caller-preserved c =
    let seen = c.args.lists.now in
    let callers = c.args.callers.now in
    let k = c.loop-caller.caller-index in
    let calls = c.loop-caller.calls.items in
    let new = c.extend_from_slice.new.self.items in
    among_next (IsCallOf seen) callers k 0 [] (see_calls calls) (see_calls new) c.loop-caller-test.true c.loop-caller.invariant
    (calls_behind seen (get_or callers k 0) calls c.calls_by.result.now new c.in_ok-extend_from_slice.ensures.items c.calls_by.ensures)

pub returns : goal.returns
returns c =
    let seen = c.args.lists.now in
    let callers = c.args.callers.now in
    let calls = see_calls c.loop-caller.calls.items in
    adds_from_none (IsAmong (IsCallOf seen) callers) [] calls refl
    (among_all (IsCallOf seen) callers c.loop-caller.caller-index [] calls c.loop-caller-test.false c.loop-caller.invariant)
