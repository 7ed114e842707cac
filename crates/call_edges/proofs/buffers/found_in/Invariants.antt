use Rattle.std.proofs.Common.{◌≡◌, true, take}
use Rattle.call_edges.specs.ProgramRows.{rows_of}
use Rattle.call_edges.specs.Bodies.{see_body}
use Rattle.call_edges.specs.Goals.{Adds}
use Rattle.call_edges.specs.Calls.{IsAmong}
use Rattle.call_edges.specs.CallPlaces.{IsCalledIn as IsPlacedIn}
use Rattle.call_edges.specs.PlacedSeen.{see_calls}
use Rattle.call_edges.proofs.CallLemmas.{IsCalledIn}
use Rattle.call_edges.proofs.FaultLemmas.{IsSeenFault}
use Rattle.call_edges.proofs.buffers.found_in.Given as goal

-- the calls of the bodies so far, and the places in them
abbrev pub invariant-loop-body : goal.invariant-loop-body
invariant-loop-body l = record {
  callees : Adds (IsAmong (IsCalledIn l.program) (take l.body-index l.bodies)) l.fn.found.callees.items l.found.callees.items;
  calls :
      l.opening.keep ≡ true
      → Adds (IsAmong (λ body. IsPlacedIn l.program l.opening.node (see_body body)) (take l.body-index l.bodies)) (see_calls l.fn.found.calls.items)
      (see_calls l.found.calls.items);
  faults : Adds (IsAmong (IsSeenFault (rows_of l.program)) (take l.body-index l.bodies)) l.fn.faults.items l.faults.items;
}
