use Rattle.std.proofs.Common.{◌≡◌, map, sym, ◌∙◌, subst}
use Rattle.std.specs.List.{AllZip}
use Rattle.file_library.specs.Spots.{AreSpots, IsSpotPlace}
use Rattle.call_table.specs.Table.{clause_end}
use Rattle.call_table.proofs.extents.ends_of.Goals as goal

pub places_of_spots-requires : goal.places_of_spots-requires
places_of_spots-requires c =
    let is : c.deref.result.now ≡ map clause_end c.args.clauses.now = c.deref.ensures.value ∙ c.in_ok-spots.ensures in
    subst (AreSpots c.args.program.now.loaded.texts) (sym is) c.requires

pub returns : goal.returns
returns c =
    let is : c.deref.result.now ≡ map clause_end c.args.clauses.now = c.deref.ensures.value ∙ c.in_ok-spots.ensures in
    subst (λ spots. AllZip (IsSpotPlace c.args.program.now.loaded.texts) spots c.in_ok-places.places.items) is c.in_ok-places.ensures
