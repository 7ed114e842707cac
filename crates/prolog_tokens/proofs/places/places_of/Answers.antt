use Rattle.std.proofs.Common.{rules, ◌≡◌, ◌++◌, [], ◌∷◌}
use Rattle.std.proofs.lemmas.List.Elements.{All-get_or}
use Rattle.prolog_tokens.specs.Places.{IsOffset}
use Rattle.prolog_tokens.proofs.PlaceSteps.{placed_more}
use Rattle.prolog_tokens.proofs.places.places_of.Goals as goal

pub loop-offset-preserved : goal.loop-offset-preserved
loop-offset-preserved c =
    let items : c.push.new.self.items ≡ c.loop-offset.places.items ++ c.advanced-place.result ∷ [] = search rules in
    rw items (placed_more c.args.bytes.now c.args.offsets.now c.loop-offset.offset-index c.loop-offset.places.items c.loop-offset.at c.loop-offset.place.line c.loop-offset.place.column c.advanced-place.result
    c.loop-offset-test.true c.requires.ascending c.loop-offset.invariant
    (All-get_or (IsOffset c.args.bytes.now) c.args.offsets.now c.loop-offset.offset-index 0 c.loop-offset-test.true c.requires.offsets) c.advanced-place.ensures)
