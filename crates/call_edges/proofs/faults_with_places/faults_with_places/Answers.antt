use Rattle.std.proofs.Common.{◌≡◌, List, ap, sym, ◌∙◌, subst}
use Rattle.std.specs.List.{AllZip}
use Rattle.prolog_tokens.specs.declared.token.Place.{Place}
use Rattle.file_library.specs.Loaded.{LoadedFiles, NamedText}
use Rattle.file_library.specs.Spots.{IsSpotPlace, texts_of}
use Rattle.call_edges.specs.FaultPlaces.{IsPlaced}
use Rattle.call_edges.proofs.PlacedLemmas.{are_spots}
use Rattle.call_edges.proofs.faults_with_places.faults_with_places.Goals as goal

pub places_of_spots-requires : goal.places_of_spots-requires
places_of_spots-requires c = are_spots c.args.program.now c.args.spots.now c.is_known.ensures c.requires

pub faults_of-requires : goal.faults_of-requires
faults_of-requires c =
    let is : c.args.program.now.loaded.texts ≡ texts_of c.deref.result.now =
    ap (λ (l : LoadedFiles). l.texts) c.loaded.ensures ∙ ap texts_of (sym c.deref.ensures.value) in
    let P : List NamedText → List Place → Type 0 = λ texts places. AllZip (IsSpotPlace texts) c.args.spots.now places in
    subst (P (texts_of c.deref.result.now)) (sym c.deref-2.ensures.value)
    (subst (λ texts. P texts c.in_ok-places.places.items) is c.in_ok-places.ensures)

pub returns : goal.returns
returns c =
    let is : c.args.program.now.loaded.texts ≡ texts_of c.deref.result.now =
    ap (λ (l : LoadedFiles). l.texts) c.loaded.ensures ∙ ap texts_of (sym c.deref.ensures.value) in
    subst (λ texts. AllZip (IsPlaced texts) c.args.spots.now c.in_ok-faults.faults.items) (sym is) c.in_ok-faults.ensures
