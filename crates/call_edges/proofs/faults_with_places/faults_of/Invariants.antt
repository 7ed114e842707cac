use Rattle.std.proofs.Common.{take}
use Rattle.std.specs.List.{AllZip}
use Rattle.file_library.specs.Spots.{texts_of}
use Rattle.call_edges.specs.FaultPlaces.{IsPlaced}
use Rattle.call_edges.proofs.faults_with_places.faults_of.Given as goal

-- the faults so far
abbrev pub invariant-loop-at : goal.invariant-loop-at
invariant-loop-at l = AllZip (IsPlaced (texts_of l.texts)) (take l.at l.spots) l.faults.items
