use Rattle.std.proofs.Common.{[], take}
use Rattle.call_edges.specs.Goals.{Adds}
use Rattle.call_edges.specs.Calls.{IsAmong}
use Rattle.call_edges.specs.CallPlaces.{IsCallOf}
use Rattle.call_edges.specs.PlacedSeen.{see_calls}
use Rattle.call_edges.proofs.placed_calls.gather_calls.Given as goal

-- the calls of the predicates so far
abbrev pub invariant-loop-caller : goal.invariant-loop-caller
invariant-loop-caller l = Adds (IsAmong (IsCallOf l.lists) (take l.caller-index l.callers)) [] (see_calls l.calls.items)
