use Rattle.std.proofs.Common.{take}
use Rattle.call_edges.specs.Calls.{IsAmong}
use Rattle.call_edges.specs.DirectiveCalls.{no_caller}
use Rattle.call_edges.specs.Goals.{Adds}
use Rattle.call_edges.specs.PlacedSeen.{see_calls}
use Rattle.call_edges.proofs.PlacedCallLemmas.{IsKeptCall}
use Rattle.call_edges.proofs.directives.push_calls_met.Given as goal

-- the calls of what was met so far
abbrev pub invariant-loop-one : goal.invariant-loop-one
invariant-loop-one l =
    Adds (IsAmong (IsKeptCall l.program l.file no_caller) (take l.one-index l.met)) (see_calls l.fn.calls.items) (see_calls l.calls.items)
