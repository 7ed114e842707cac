use Rattle.std.proofs.Common.{◌≡◌, true, take}
use Rattle.call_edges.specs.Goals.{Adds}
use Rattle.call_edges.specs.Calls.{IsAmong}
use Rattle.call_edges.specs.PlacedSeen.{see_calls}
use Rattle.call_edges.proofs.CallLemmas.{HasTarget}
use Rattle.call_edges.proofs.PlacedCallLemmas.{IsKeptCall}
use Rattle.call_edges.proofs.found.push_found.Given as goal

-- the targets of what was met so far, and its calls
abbrev pub invariant-loop-one : goal.invariant-loop-one
invariant-loop-one l = record {
  callees : Adds (IsAmong (HasTarget l.program) (take l.one-index l.met)) l.fn.found.callees.items l.found.callees.items;
  calls :
      l.opening.keep ≡ true
      → Adds (IsAmong (IsKeptCall l.program l.file l.opening.node) (take l.one-index l.met)) (see_calls l.fn.found.calls.items)
      (see_calls l.found.calls.items);
}
