use Rattle.std.proofs.Common.{ℕ, List, Vec, Global, ap, sym, ◌∙◌, arith}
use Rattle.std.proofs.lemmas.List.{length-map}
use Rattle.list_laws.proofs.Zips.{zip_count}
use Rattle.prolog_tokens.specs.declared.token.Place.{Place}
use Rattle.file_library.specs.Spots.{IsSpotPlace, texts_of}
use Rattle.call_edges.proofs.PlacedLemmas.{placed_more, spot_within}
use Rattle.call_edges.proofs.faults_with_places.faults_of.Goals as goal

first : Place
first = record { line = 0; column = 0 }

pub bounds-texts-spot : goal.bounds-texts-spot
bounds-texts-spot c =
    let see : List ℕ × Vec ℕ Global → List ℕ × List ℕ = λ t. (t.0, t.1.items) in
    omega
    (arith, spot_within (texts_of c.args.texts.now) c.args.spots.now c.args.places.now c.loop-at.at (0, 0) first c.requires c.loop-at-test.true, length-map c.args.texts.now see)

pub bounds-places-at : goal.bounds-places-at
bounds-places-at c =
    omega (arith, c.loop-at-test.true, zip_count (IsSpotPlace (texts_of c.args.texts.now)) c.args.spots.now c.args.places.now c.requires)

pub loop-at-preserved : goal.loop-at-preserved
loop-at-preserved c =
    placed_more c.args.texts.now c.args.spots.now c.args.places.now c.loop-at.at (0, 0) _ c.index-texts-spot.result c.in_ok-new.field-0 c.loop-at.faults.items c.push.new.self.items c.requires
    c.loop-at-test.true c.index-texts-spot.is (c.in_ok-new.ensures ∙ (c.as_str.ensures ∙ ap (λ (t : List ℕ × Vec ℕ Global). t.0) (sym c.index-texts-spot.is))) c.in_ok-push.ensures.items c.loop-at.invariant
