use Rattle.std.proofs.Common.{[], take}
use Rattle.call_edges.specs.Goals.{Adds}
use Rattle.call_edges.specs.Calls.{IsAmong}
use Rattle.call_edges.specs.FaultPlaces.{HasPlace}
use Rattle.call_edges.proofs.check.join_faults.Given as goal

-- the places of the pieces so far
abbrev pub invariant-loop-piece : goal.invariant-loop-piece
invariant-loop-piece l = Adds (IsAmong HasPlace (take l.piece-index l.pieces)) [] l.places.items
