-- All import faults of what was loaded.
use Rattle.std.proofs.Common.{◌≡◌, ℕ, ◌<◌, ◌≤◌, List, [], ◌∷◌, ◌++◌, All, AllPairs, IsPermutation, length, map, get_or, refl, sym, ap, ◌∙◌, subst, arith}
use Rattle.std.specs.List.{AllZip, flat_map}
use Rattle.std.specs.Cmp.Lexicographic.{slice_cmp}
use Rattle.std.specs.Ordering.{nat_cmp}
use Rattle.std.specs.declared.cmp.Ordering.TheVariants.{Less}
use Rattle.std.proofs.lemmas.List.{length-map, get_or-map}
use Rattle.std.proofs.lemmas.List.Elements.{All-nil, All-cons}
use Rattle.std.proofs.lemmas.Map.Keys.{Less-from_sorted}
use Rattle.prolog_tokens.specs.declared.limits.TheConstants.{MOST_BYTES}
use Rattle.module_table.specs.Facts.{Facts}
use Rattle.file_library.specs.Asked.{AreInOrder}
use Rattle.file_library.specs.Loaded.{LoadedFiles, NamedText, WasLoaded}
use Rattle.file_library.specs.declared.fault.Fault.{Fault}
use Rattle.import_rules.specs.declared.lookups.Lookups.{Lookups}
use Rattle.import_rules.specs.Clashes.{Imports, AreClashes}
use Rattle.import_rules.specs.Files.{AreNumbered}
use Rattle.import_rules.specs.Flaws.{Flaw, AreImportFaults, clash_flaw, file_flaws}
use Rattle.import_rules.specs.Items.{foreign_items}
use Rattle.import_rules.specs.KnownFiles.{AreKnown, AreRising, IsKnownIn, IsReady, absent_of, files_of, shared_of}
use Rattle.import_rules.specs.Names.{pred_cmp}
use Rattle.import_rules.specs.PlacedFlaws.{AreTexts, ArePlacedFlaws, StandsIn}
use Rattle.import_rules.specs.Program.{IsReadFrom}
use Rattle.import_rules.proofs.FlawsStand.{all_stand}
use Rattle.import_rules.proofs.Loaded.{was_read}

-- the files have the names of their texts
names_same : (texts : List NamedText) (files : List Facts) → AllZip IsReadFrom texts files → map (λ (text : NamedText). text.0) texts ≡ map (λ (f : Facts). f.file) files
names_same [] [] read = refl
names_same [] (file ∷ files) read = absurd read
names_same (text ∷ texts) [] read = absurd read
names_same (text ∷ texts) (file ∷ files) read = λ i. sym read.0.named i ∷ names_same texts files read.1 i

pub small_each : (texts : List NamedText) (files : List Facts) → AllZip IsReadFrom texts files → All (λ (text : NamedText). length text.1 ≤ MOST_BYTES) texts
small_each [] files read = All-nil (λ (text : NamedText). length text.1 ≤ MOST_BYTES)
small_each (text ∷ texts) [] read = absurd read
small_each (text ∷ texts) (file ∷ files) read = All-cons (λ (t : NamedText). length t.1 ≤ MOST_BYTES) text texts read.0.small (small_each texts files read.1)

module _ (loaded : LoadedFiles) (was : WasLoaded loaded) where
  pub files_rise : AreRising loaded.files
  files_rise i j d less within =
      let names : List (List ℕ) = map (λ (f : Facts). f.file) loaded.files in
      let ordered : AreInOrder names = subst AreInOrder (names_same loaded.texts loaded.files (was_read loaded was)) was.is.ordered in
      let lower : i < length loaded.files = omega (arith, less, within) in
      let inside : j < length names = omega (arith, within, length-map loaded.files (λ (f : Facts). f.file)) in
      subst (λ n. slice_cmp nat_cmp n (get_or loaded.files j d).file ≡ Less) (get_or-map (λ (f : Facts). f.file) loaded.files i d d.file lower)
      (subst (λ n. slice_cmp nat_cmp (get_or names i d.file) n ≡ Less) (get_or-map (λ (f : Facts). f.file) loaded.files j d d.file within)
      (Less-from_sorted (slice_cmp nat_cmp) names i j d.file ordered less inside))

  pub texts_are : AreTexts loaded.texts
  texts_are = record {
    ordered = was.is.ordered;
    limited = record { few = omega (arith, was.is.few); small = small_each loaded.texts loaded.files (was_read loaded was) };
  }

  -- the look-ups are right
  pub ready : (lookups : Lookups) → AreKnown loaded.files lookups.known.items → absent_of lookups ≡ loaded.absent → AreNumbered loaded.files lookups.predicates.now
      → AllPairs (λ (i j : Imports). pred_cmp i.into j.into ≡ Less) (shared_of lookups) → IsReady lookups
  ready lookups known absent numbered shared = record {
    rising = subst AreRising (sym known.are) files_rise;
    known = subst (λ files. All (IsKnownIn files) lookups.known.items) (sym known.are) known.each;
    absent = subst AreInOrder (sym absent) was.is.absent_are.ordered;
    numbered = subst (λ files. AreNumbered files lookups.predicates.now) (sym known.are) numbered;
    shared = shared;
  }

  -- what is found by the look-ups is what is wrong with the files
  pub found_in_all : (lookups : Lookups) → files_of lookups ≡ loaded.files → absent_of lookups ≡ loaded.absent → (flaws all : List Flaw) (clashes : List Imports)
      → flaws ≡ flat_map (file_flaws (files_of lookups) (absent_of lookups)) (files_of lookups) → all ≡ flaws ++ map clash_flaw clashes
      → all ≡ flat_map (file_flaws loaded.files loaded.absent) loaded.files ++ map clash_flaw clashes
  found_in_all lookups files absent flaws all clashes found more =
      more ∙ ap (λ fs. fs ++ map clash_flaw clashes) (found ∙ (λ i. flat_map (file_flaws (files i) (absent i)) (files i)))

  pub all_in_texts : (all : List Flaw) (clashes : List Imports) → all ≡ flat_map (file_flaws loaded.files loaded.absent) loaded.files ++ map clash_flaw clashes
      → AreClashes (foreign_items loaded.files) clashes → All (StandsIn loaded.texts) all
  all_in_texts all clashes is are = subst (All (StandsIn loaded.texts)) (sym is) (all_stand loaded.texts loaded.files loaded.absent clashes (was_read loaded was) are)

  pub are_faults : (all : List Flaw) (clashes : List Imports) (faults : List Fault) → all ≡ flat_map (file_flaws loaded.files loaded.absent) loaded.files ++ map clash_flaw clashes
      → AreClashes (foreign_items loaded.files) clashes → ArePlacedFlaws loaded.texts all faults → AreImportFaults loaded faults
  are_faults all clashes faults is are placed = record {
    flaws = placed.sorted;
    are = record {
      clashes = clashes;
      are_clashes = are;
      all = subst (λ fs. IsPermutation fs placed.sorted) is placed.moved;
      in_order = placed.in_order;
    };
    placed = placed.placed;
  }
