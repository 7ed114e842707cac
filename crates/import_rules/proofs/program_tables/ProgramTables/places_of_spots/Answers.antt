use Rattle.std.proofs.Common.{◌≡◌, ap, sym, ◌∙◌, subst}
use Rattle.std.specs.List.{AllZip}
use Rattle.file_library.specs.Loaded.{LoadedFiles}
use Rattle.file_library.specs.Spots.{AreLimited, AreSpots, IsSpotPlace, texts_of}
use Rattle.import_rules.specs.Program.{see_program}
use Rattle.import_rules.proofs.Limited.{limited}
use Rattle.import_rules.proofs.program_tables.ProgramTables.places_of_spots.Goals as goal

pub places_of_spots-requires-clause-texts : goal.places_of_spots-requires-clause-texts
places_of_spots-requires-clause-texts c =
    let is : (see_program c.args.self.now).loaded.texts ≡ texts_of c.deref.result.now =
    ap (λ (l : LoadedFiles). l.texts) c.loaded.ensures ∙ ap texts_of (sym c.deref.ensures.value) in
    subst AreLimited is (limited c.args.self.now)

pub places_of_spots-requires-clause-spots : goal.places_of_spots-requires-clause-spots
places_of_spots-requires-clause-spots c =
    let is : (see_program c.args.self.now).loaded.texts ≡ texts_of c.deref.result.now =
    ap (λ (l : LoadedFiles). l.texts) c.loaded.ensures ∙ ap texts_of (sym c.deref.ensures.value) in
    subst (λ texts. AreSpots texts c.args.spots.now) is c.requires

pub returns : goal.returns
returns c =
    let is : (see_program c.args.self.now).loaded.texts ≡ texts_of c.deref.result.now =
    ap (λ (l : LoadedFiles). l.texts) c.loaded.ensures ∙ ap texts_of (sym c.deref.ensures.value) in
    subst (λ texts. AllZip (IsSpotPlace texts) c.args.spots.now c.in_ok-places.places.items) (sym is) c.in_ok-places.ensures
