use Rattle.std.proofs.Common.{◌≡◌, map, ap, sym, ◌∙◌, subst}
use Rattle.std.proofs.lemmas.Simd.{map-map}
use Rattle.std.specs.List.{AllZip}
use Rattle.import_rules.specs.Program.{Seen}
use Rattle.file_library.specs.Spots.{AreSpots, IsSpotPlace}
use Rattle.call_edges.specs.PlacedSeen.{see_call, see_calls}
use Rattle.call_table.specs.Table.{call_spot, kept_spot}
use Rattle.call_table.proofs.SpotOrder.{calls_are_spots}
use Rattle.call_table.proofs.table.calls_with_places.Goals as goal

pub places_of_spots-requires : goal.places_of_spots-requires
places_of_spots-requires c =
    let seen = c.args.lists.now in
    let calls = c.in_ok-calls.calls.items in
    let is : c.deref-2.result.now ≡ map call_spot (see_calls calls) =
    c.deref-2.ensures.value ∙ (c.in_ok-spots.ensures ∙ (ap (map kept_spot) c.deref.ensures.value ∙ sym (map-map call_spot see_call calls))) in
    subst (λ (s : Seen). AreSpots s.loaded.texts c.deref-2.result.now) (sym c.program.ensures)
    (subst (AreSpots seen.loaded.texts) (sym is)
    (calls_are_spots seen c.args.nodes.now (see_calls calls) c.in_ok-calls.ensures.calls c.in_ok-calls.ensures.stand))

pub returns : goal.returns
returns c =
    let seen = c.args.lists.now in
    let calls = c.in_ok-calls.calls.items in
    let places = c.in_ok-places.places.items in
    let is : c.deref-2.result.now ≡ map call_spot (see_calls calls) =
    c.deref-2.ensures.value ∙ (c.in_ok-spots.ensures ∙ (ap (map kept_spot) c.deref.ensures.value ∙ sym (map-map call_spot see_call calls))) in
    record {
      are = c.in_ok-calls.ensures.calls;
      placed =
          subst (λ spots. AllZip (IsSpotPlace seen.loaded.texts) spots places) is
          (subst (λ (s : Seen). AllZip (IsSpotPlace s.loaded.texts) c.deref-2.result.now places) c.program.ensures c.in_ok-places.ensures);
    }
