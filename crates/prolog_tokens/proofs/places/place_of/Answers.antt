use Rattle.prolog_tokens.proofs.PlaceSteps.{counted_first, counted_place, place_once}
use Rattle.prolog_tokens.proofs.places.place_of.Goals as goal

pub advanced-requires-clause-counted : goal.advanced-requires-clause-counted
advanced-requires-clause-counted c = counted_first c.args.bytes.now

pub returns-clause-place : goal.returns-clause-place
returns-clause-place c = counted_place c.args.bytes.now c.args.offset c.advanced.result c.requires.offset c.advanced.ensures

pub returns-clause-only : goal.returns-clause-only
returns-clause-only c = λ other is.
    place_once c.args.bytes.now c.args.offset other c.advanced.result is (counted_place c.args.bytes.now c.args.offset c.advanced.result c.requires.offset c.advanced.ensures)
