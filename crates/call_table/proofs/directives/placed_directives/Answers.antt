use Rattle.std.proofs.Common.{◌≡◌, map, ap, sym, ◌∙◌, subst}
use Rattle.std.proofs.lemmas.Simd.{map-map}
use Rattle.std.specs.List.{AllZip}
use Rattle.file_library.specs.Spots.{AreSpots, IsSpotPlace}
use Rattle.call_edges.specs.PlacedSeen.{see_call, see_calls}
use Rattle.call_table.specs.Table.{call_spot, kept_spot}
use Rattle.call_table.proofs.SpotOrder.{ordered_are_spots}
use Rattle.call_table.proofs.directives.placed_directives.Goals as goal

pub places_of_spots-requires : goal.places_of_spots-requires
places_of_spots-requires c =
    let seen = c.args.program.now in
    let calls = c.in_ok-calls.calls.items in
    let is : c.deref-2.result.now ≡ map call_spot (see_calls calls) =
    c.deref-2.ensures.value ∙ (c.in_ok-spots.ensures ∙ (ap (map kept_spot) c.deref.ensures.value ∙ sym (map-map call_spot see_call calls))) in
    subst (AreSpots seen.loaded.texts) (sym is)
    (ordered_are_spots seen (see_calls calls) c.in_ok-calls.ensures.calls.ordered c.in_ok-calls.ensures.stand)

pub returns : goal.returns
returns c =
    let seen = c.args.program.now in
    let calls = c.in_ok-calls.calls.items in
    let places = c.in_ok-places.places.items in
    let is : c.deref-2.result.now ≡ map call_spot (see_calls calls) =
    c.deref-2.ensures.value ∙ (c.in_ok-spots.ensures ∙ (ap (map kept_spot) c.deref.ensures.value ∙ sym (map-map call_spot see_call calls))) in
    record {
      are = c.in_ok-calls.ensures.calls;
      placed = subst (λ spots. AllZip (IsSpotPlace seen.loaded.texts) spots places) is c.in_ok-places.ensures;
    }
