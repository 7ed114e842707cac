use Rattle.prolog_tokens.proofs.PlaceSteps.{HasPlaced}
use Rattle.prolog_tokens.proofs.places.places_of.Given as goal

abbrev pub invariant-loop-offset : goal.invariant-loop-offset
invariant-loop-offset l = HasPlaced l.bytes l.offsets l.offset-index l.places.items l.at l.place.line l.place.column
