use Rattle.file_library.specs.Spots.{texts_of}
use Rattle.file_library.proofs.SpotLemmas.{IsPlacing}
use Rattle.file_library.proofs.spots.places_of_spots.Given as goal

-- the places of the files so far
abbrev pub invariant-loop-at : goal.invariant-loop-at
invariant-loop-at l = IsPlacing (texts_of l.texts) l.spots l.rest l.at l.out.items
