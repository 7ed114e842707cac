-- The predicates of files, what is wrong with how they import, and its places.
use Rattle.std.proofs.Common.{◌≡◌, ◌⊎◌, ◌≢◌, inl, inr, ◌<◌, ◌≤◌, List, [], ◌∷◌, ◌++◌, All, Contains, length, map, refl, ap, ◌∙◌}
use Rattle.std.specs.List.{AllZip, filter_map, flat_map}
use Rattle.std.specs.Ordering.{is_eq}
use Rattle.std.specs.declared.cmp.Ordering.TheVariants.{Equal}
use Rattle.std.proofs.lemmas.Bool.{cases_lt}
use Rattle.std.proofs.lemmas.List.Elements.{All-head, All-tail}
use Rattle.std.proofs.lemmas.List.Sorted.{All-permutation}
use Rattle.prolog_tokens.specs.declared.token.Place.{Place}
use Rattle.prolog_tokens.specs.Places.{IsPlace}
use Rattle.module_table.specs.Facts.{Facts}
use Rattle.file_library.specs.Loaded.{LoadedFiles, NamedText, WasLoaded}
use Rattle.file_library.specs.declared.fault.Fault.{Fault}
use Rattle.import_rules.specs.declared.names.PredName.{PredName}
use Rattle.import_rules.specs.Clashes.{AreClashes, Imports, clash}
use Rattle.import_rules.specs.Files.{AreNumbered, all_defined}
use Rattle.import_rules.specs.Flaws.{AreFlaws, AreImportFaults, Flaw, IsFaultOf, clash_flaw, file_flaws, flaw_cmp}
use Rattle.import_rules.specs.Items.{foreign_items}
use Rattle.import_rules.specs.Names.{pred_cmp}
use Rattle.import_rules.specs.PlacedFlaws.{StandsIn, fault_at}
use Rattle.import_rules.specs.declared.resolve.TheConstants.{MOST_PREDICATES}
use Rattle.import_rules.specs.Program.{Seen, HasPredicates, IsProgram}
use Rattle.import_rules.proofs.FlawsStand.{all_stand}
use Rattle.import_rules.proofs.Lists.{all_by, map_has}
use Rattle.import_rules.proofs.Loaded.{was_read}
use Rattle.import_rules.proofs.NameOrder.{pred_cmp_total, same_parts, same_ties}
use Rattle.import_rules.proofs.FlawSpots.{flaw_cmp_total}
use Rattle.laws.proofs.Orders.{HasOnce, has_once, HasSorted, has_sorted}
use Rattle.laws.proofs.Placed.{has_place}

one_name : (p q : PredName) → pred_cmp p q ≡ Equal → p ≡ q
one_name p q tie = same_parts p q (same_ties p q ∙ ap is_eq tie)

names_once : (names : List PredName) → HasOnce pred_cmp pred_cmp_total names
names_once names = has_once pred_cmp pred_cmp_total one_name names

pub has_numbers : (files : List Facts) → (predicates : List PredName) × AreNumbered files predicates
has_numbers files =
    let names = names_once (all_defined files) in (
      names.once,
      record {
        in_order = names.rising;
        defined = all_by (Contains (all_defined files)) names.once (λ p has. (names.each p).0 has);
        all = all_by (Contains names.once) (all_defined files) (λ p has. (names.each p).1 has);
      },
    )

has_clashes : (items : List Imports) → (clashes : List Imports) × AreClashes items clashes
has_clashes items =
    let names = names_once (map (λ (i : Imports). i.into) items) in (
      filter_map (clash items) names.once,
      record {
        predicates = names.once;
        in_order = names.rising;
        each = all_by (Contains (map (λ (i : Imports). i.into) items)) names.once (λ p has. (names.each p).0 has);
        all = all_by (λ (i : Imports). Contains names.once i.into) items (λ i has. (names.each i.into).1 (map_has (λ (x : Imports). x.into) items i has));
        are = refl;
      },
    )

-- what is wrong has its places where it stands in the texts
each_placed : (texts : List NamedText) (flaws : List Flaw) → All (StandsIn texts) flaws → (faults : List Fault) × AllZip (IsFaultOf texts) flaws faults
each_placed texts [] stand = ([], tt)
each_placed texts (flaw ∷ flaws) stand =
    let first : StandsIn texts flaw = All-head (StandsIn texts) flaw flaws stand in
    let place : (p : Place) × IsPlace first.text flaw.offset p = has_place first.text flaw.offset first.at in
    let rest : (faults : List Fault) × AllZip (IsFaultOf texts) flaws faults = each_placed texts flaws (All-tail (StandsIn texts) flaw flaws stand) in (
      fault_at flaw place.0 ∷ rest.0,
      (record { file = refl; offset = refl; cause = refl; text = first.text; there = first.there; stands = place.1 }, rest.1),
    )

-- what is wrong with how files import, with its places
record HasFlaws (loaded : LoadedFiles) : Type 0 where
  flaws : List Flaw
  are : AreFlaws loaded.files loaded.absent flaws
  faults : List Fault
  placed : AllZip (IsFaultOf loaded.texts) flaws faults

has_flaws : (loaded : LoadedFiles) → WasLoaded loaded → HasFlaws loaded
has_flaws loaded was =
    let found : (clashes : List Imports) × AreClashes (foreign_items loaded.files) clashes = has_clashes (foreign_items loaded.files) in
    let all : List Flaw = flat_map (file_flaws loaded.files loaded.absent) loaded.files ++ map clash_flaw found.0 in
    let ordered : HasSorted flaw_cmp flaw_cmp_total all = has_sorted flaw_cmp flaw_cmp_total all in
    let stand : All (StandsIn loaded.texts) all = all_stand loaded.texts loaded.files loaded.absent found.0 (was_read loaded was) found.1 in
    let placed = each_placed loaded.texts ordered.sorted (All-permutation (StandsIn loaded.texts) all ordered.sorted ordered.moved stand) in
    record {
      flaws = ordered.sorted;
      are = record { clashes = found.0; are_clashes = found.1; all = ordered.moved; in_order = ordered.in_order };
      faults = placed.0;
      placed = placed.1;
    }

-- too many predicates, or import faults, or a program
abbrev pub IsProgramOr : LoadedFiles → Type 0
IsProgramOr loaded =
    HasPredicates loaded (λ n. MOST_PREDICATES < n)
    ⊎ (((faults : List Fault) × (HasPredicates loaded (λ n. n ≤ MOST_PREDICATES) × (AreImportFaults loaded faults × (faults ≢ [])))) ⊎ ((seen : Seen) × IsProgram loaded seen))

module _ (loaded : LoadedFiles) (predicates : List PredName) (numbered : AreNumbered loaded.files predicates) (few : length predicates ≤ MOST_PREDICATES) where
  by_flaws : (flaws : List Flaw) (faults : List Fault) → AreFlaws loaded.files loaded.absent flaws → AllZip (IsFaultOf loaded.texts) flaws faults → IsProgramOr loaded
  by_flaws [] faults are placed = inr (inr (record { loaded = loaded; predicates = predicates }, record { is = refl; numbered = numbered; few = few; sound = are }))
  by_flaws (flaw ∷ flaws) [] are placed = absurd placed
  by_flaws (flaw ∷ flaws) (fault ∷ faults) are placed =
      inr
      (inl (
        fault ∷ faults,
        (
          record { predicates = predicates; numbered = numbered; many_are = few },
          (record { flaws = flaw ∷ flaws; are = are; placed = placed }, λ none. cc),
        ),
      ))

pub program_or_faults : (loaded : LoadedFiles) → WasLoaded loaded → IsProgramOr loaded
program_or_faults loaded was =
    let names : (predicates : List PredName) × AreNumbered loaded.files predicates = has_numbers loaded.files in
    let wrong = has_flaws loaded was in
    elim (cases_lt MOST_PREDICATES (length names.0)) [
      | inl many ↦ inl (record { predicates = names.0; numbered = names.1; many_are = many })
      | inr few ↦ by_flaws loaded names.0 names.1 few wrong.flaws wrong.faults wrong.are wrong.placed
    ]
