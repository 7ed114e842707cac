-- The goals of a program that aren't callable, as a list with their places.
use Rattle.std.proofs.Common.{◌≡◌, ◌↔◌, inl, inr, ℕ, zero, suc, List, [], ◌∷◌, Some, All, slice_get, refl, sym, subst, ap, ◌∙◌}
use Rattle.std.specs.Prelude.{Contains}
use Rattle.std.specs.List.{AllZip, flat_map, enumerate_from}
use Rattle.std.specs.Ordering.{nat_cmp, ordering_then}
use Rattle.std.specs.declared.cmp.Ordering.{Ordering}
use Rattle.std.specs.declared.cmp.Ordering.TheVariants.{Less, Equal, Greater}
use Rattle.std.proofs.lemmas.Cmp.{ranked}
use Rattle.std.proofs.lemmas.List.Elements.{All-head, All-tail}
use Rattle.std.proofs.lemmas.Option.{none-some, same_Some}
use Rattle.list_laws.proofs.OneOrder.{nothing_in, first_or_rest, in_first}
use Rattle.prolog_tokens.specs.declared.token.Place.{Place}
use Rattle.prolog_tokens.specs.Places.{IsPlace}
use Rattle.clause_text.specs.declared.cause.Cause.TheVariants.{NotCallable}
use Rattle.module_table.specs.Facts.{Facts}
use Rattle.file_library.specs.Loaded.{LoadedFiles, NamedText, WasLoaded}
use Rattle.file_library.specs.declared.fault.Fault.{Fault}
use Rattle.import_rules.specs.Files.{AreNumbered, pair_cmp}
use Rattle.import_rules.specs.Program.{Seen, IsProgram, IsKnown, IsReadFrom}
use Rattle.import_rules.proofs.Lists.{all_by}
use Rattle.import_rules.proofs.Loaded.{few_files, was_read}
use Rattle.call_edges.specs.Goals.{Met, call, fault, Rows}
use Rattle.call_edges.specs.ProgramRows.{rows_of}
use Rattle.call_edges.specs.GoalFaults.{AreGoalFaults, IsMetInFile}
use Rattle.call_edges.specs.FaultPlaces.{IsFaultPlace, AreFaultPlaces, IsPlaced}
use Rattle.call_edges.proofs.CheckLemmas.{pair_cmp_total}
use Rattle.call_edges.proofs.GoalFaultLemmas.{goal_faults}
use Rattle.call_edges.proofs.OffsetLemmas.{file_fault_stands}
use Rattle.call_edges.proofs.PlaceLemmas.{enumerated, numbered}
use Rattle.laws.proofs.Mets.{given_has, file_mets, file_has}
use Rattle.laws.proofs.Orders.{HasOnce, has_once}
use Rattle.laws.proofs.Placed.{has_place}

-- what is known of a program, where its files were loaded
pub known : (loaded : LoadedFiles) (seen : Seen) → WasLoaded loaded → IsProgram loaded seen → IsKnown seen
known loaded seen was program =
    let own : WasLoaded seen.loaded = subst WasLoaded (sym program.is) was in
    record {
      numbered = subst (λ (l : LoadedFiles). AreNumbered l.files seen.predicates) (sym program.is) program.numbered;
      few = program.few;
      few_files = few_files seen.loaded own;
      roots = own.is.root_names.ordered;
      ordered = own.is.ordered;
      read = was_read seen.loaded own;
    }

-- the places of such goals

abbrev IsFaultAt : ℕ → Met → ℕ × ℕ → Type 0
IsFaultAt file m p = (p.0 ≡ file) × (m ≡ fault p.1)

abbrev met_places : ℕ → Met → List (ℕ × ℕ)
met_places file (call from owner name arity more negated) = []
met_places file (fault at) = (file, at) ∷ []

one_place : (file : ℕ) (m : Met) (p : ℕ × ℕ) → Contains (met_places file m) p ↔ IsFaultAt file m p
one_place file (call from owner name arity more negated) p = (λ has. absurd (nothing_in p has), λ is. let no : ⊥ = cc in absurd no)
one_place file (fault at) p = (
  λ has.
      elim (first_or_rest (file, at) p [] has) [
        | inl is ↦ (ap (λ (q : ℕ × ℕ). q.0) (sym is), ap (λ (q : ℕ × ℕ). fault q.1) is)
        | inr none ↦ absurd (nothing_in p none)
      ],
  λ is.
      let offset : at ≡ p.1 = cc in
      let same : (file, at) ≡ p = λ i. (sym is.0 i, offset i) in
      subst (Contains ((file, at) ∷ [])) same (in_first (file, at) []),
)

abbrev file_places : Rows → ℕ × Facts → List (ℕ × ℕ)
file_places T at = flat_map (met_places at.0) (file_mets T at.1)

abbrev all_places : Rows → List Facts → List (ℕ × ℕ)
all_places T files = flat_map (file_places T) (enumerate_from 0 files)

abbrev IsInFile : Rows → ℕ × Facts → ℕ × ℕ → Type 0
IsInFile T at p = (p.0 ≡ at.0) × IsMetInFile T at.1 (fault p.1)

in_file : (T : Rows) (at : ℕ × Facts) (p : ℕ × ℕ) → Contains (file_places T at) p ↔ IsInFile T at p
in_file T at p =
    let flat = given_has (met_places at.0) (IsFaultAt at.0) (one_place at.0) (file_mets T at.1) p in
    let has = file_has T at.1 (fault p.1) in (
      λ there. let among = flat.0 there in (among.is.0, has.0 (subst (Contains (file_mets T at.1)) among.is.1 among.has)),
      λ is. flat.1 (record { one = fault p.1; has = has.1 is.1; is = (is.0, refl) }),
    )

places_are : (seen : Seen) (p : ℕ × ℕ) → Contains (all_places (rows_of seen) seen.loaded.files) p ↔ IsFaultPlace seen p
places_are seen p =
    let files = seen.loaded.files in
    let flat = given_has (file_places (rows_of seen)) (IsInFile (rows_of seen)) (in_file (rows_of seen)) (enumerate_from 0 files) p in (
      λ has.
          let among = flat.0 has in
          record { file = among.one.1; is = ap (slice_get files) among.is.0 ∙ enumerated files among.one among.has; met = among.is.1 },
      λ is. flat.1 (record { one = (p.0, is.file); has = numbered files p.0 is.file is.is; is = (refl, is.met) }),
    )

both_same : (a b : ℕ × ℕ) → pair_cmp a b ≡ Equal → a ≡ b
both_same a b tie = at (nat_cmp a.0 b.0) refl tie
  where
    at : (o : Ordering) → o ≡ nat_cmp a.0 b.0 → ordering_then o (nat_cmp a.1 b.1) ≡ Equal → a ≡ b
    at Less is same = cc
    at Greater is same = cc
    at Equal is same =
        let first : a.0 ≡ b.0 = ranked a.0 b.0 Equal is in
        let second : a.1 ≡ b.1 = ranked a.1 b.1 Equal (sym same) in
        λ i. (first i, second i)

has_places : (seen : Seen) → (places : List (ℕ × ℕ)) × AreFaultPlaces seen places
has_places seen =
    let found : HasOnce pair_cmp pair_cmp_total (all_places (rows_of seen) seen.loaded.files) = has_once pair_cmp pair_cmp_total both_same (all_places (rows_of seen) seen.loaded.files) in (
      found.once,
      record {
        ordered = found.rising;
        each = λ p.
            let is = places_are seen p in
            let has = found.each p in
            (λ there. is.0 (has.0 there), λ wrong. has.1 (is.1 wrong));
      },
    )

-- the text that goes with a file
record HasText (texts : List NamedText) (k : ℕ) (file : Facts) : Type 0 where
  text : NamedText
  is : slice_get texts k ≡ Some text
  read : IsReadFrom text file

has_text : (texts : List NamedText) (files : List Facts) (k : ℕ) (file : Facts) → AllZip IsReadFrom texts files → slice_get files k ≡ Some file → HasText texts k file
has_text [] [] k file read here = absurd (none-some file here)
has_text [] (f ∷ files) k file read here = absurd read
has_text (t ∷ texts) [] k file read here = absurd read
has_text (t ∷ texts) (f ∷ files) zero file read here = record { text = t; is = refl; read = subst (IsReadFrom t) (same_Some f file here) read.0 }
has_text (t ∷ texts) (f ∷ files) (suc k) file read here =
    let rest = has_text texts files k file read.1 here in
    record { text = rest.text; is = rest.is; read = rest.read }

one_placed : (seen : Seen) → IsKnown seen → (p : ℕ × ℕ) → IsFaultPlace seen p → (one : Fault) × IsPlaced seen.loaded.texts p one
one_placed seen is_known p wrong =
    let own : HasText seen.loaded.texts p.0 wrong.file = has_text seen.loaded.texts seen.loaded.files p.0 wrong.file is_known.read wrong.is in
    let place : (q : Place) × IsPlace own.text.1 p.1 q = has_place own.text.1 p.1 (file_fault_stands own.text.1 (rows_of seen) wrong.file p.1 own.read.placed wrong.met) in (
      record { file = own.text.0; offset = p.1; place = place.0; cause = NotCallable },
      record { text = own.text; is = own.is; placed = record { in_file = refl; offset = refl; cause = refl; stands = place.1 } },
    )

each_placed : (seen : Seen) → IsKnown seen → (places : List (ℕ × ℕ)) → All (IsFaultPlace seen) places → (faults : List Fault) × AllZip (IsPlaced seen.loaded.texts) places faults
each_placed seen is_known [] wrong = ([], tt)
each_placed seen is_known (p ∷ places) wrong =
    let first : (one : Fault) × IsPlaced seen.loaded.texts p one = one_placed seen is_known p (All-head (IsFaultPlace seen) p places wrong) in
    let rest : (faults : List Fault) × AllZip (IsPlaced seen.loaded.texts) places faults = each_placed seen is_known places (All-tail (IsFaultPlace seen) p places wrong) in
    (first.0 ∷ rest.0, (first.1, rest.1))

pub goal_faults_exist : (loaded : LoadedFiles) (seen : Seen) → WasLoaded loaded → IsProgram loaded seen → (faults : List Fault) × AreGoalFaults seen faults
goal_faults_exist loaded seen was program =
    let is_known : IsKnown seen = known loaded seen was program in
    let places : (ps : List (ℕ × ℕ)) × AreFaultPlaces seen ps = has_places seen in
    let placed : (faults : List Fault) × AllZip (IsPlaced seen.loaded.texts) places.0 faults =
    each_placed seen is_known places.0 (all_by (IsFaultPlace seen) places.0 (λ p has. (places.1.each p).0 has)) in
    (placed.0, goal_faults seen is_known places.0 placed.0 places.1 placed.1)
