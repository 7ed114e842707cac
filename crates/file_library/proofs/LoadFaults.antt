-- The load faults of files that were sorted out are those of what was asked for.
use Rattle.std.proofs.Common.{◌≡◌, ℕ, Bool, true, false, List, [], ◌∷◌, Some, None, Contains, map, filter, cond, get_or, refl, sym, subst, ◌∙◌, ap, inl, inr}
use Rattle.std.specs.List.{All, AllZip, AllByRecursion}
use Rattle.std.specs.List.Sorted.{IsStrictlySortedBy}
use Rattle.std.specs.Ordering.{nat_cmp}
use Rattle.std.specs.Cmp.Lexicographic.{slice_cmp}
use Rattle.std.specs.BTreeSet.{BTreeSet, contains}
use Rattle.std.specs.declared.cmp.Ordering.TheVariants.{Less}
use Rattle.std.proofs.lemmas.List.Elements.{filter_passes, Contains-get_or}
use Rattle.std.proofs.lemmas.List.Kept.{AllPairs-filter}
use Rattle.std.proofs.lemmas.List.Sorted.{Contains-permutation, IsPermutation-sym}
use Rattle.list_laws.proofs.OneOrder.{nothing_in, first_or_rest, in_rest, in_first, before_rest, rest_in_order, holds_of}
use Rattle.list_laws.proofs.Members.{kept_in, kept_there}
use Rattle.prolog_tokens.specs.Places.{IsPlace}
use Rattle.prolog_tokens.proofs.PlaceSteps.{place_once}
use Rattle.prolog_terms.proofs.ViewLemmas.{some_once}
use Rattle.clause_text.specs.declared.cause.Cause.TheVariants.{NoRoot}
use Rattle.module_table.specs.FileText.{HasFault}
use Rattle.module_table.specs.Said.{Refusal}
use Rattle.module_table.proofs.OneText.{same_fault, faulty_no_facts}
use Rattle.file_library.specs.Library.{Files, names_of}
use Rattle.file_library.specs.Loaded.{IsAskedIn, IsLoadFault, AreLoadFaults}
use Rattle.file_library.specs.Asked.{AreInOrder}
use Rattle.file_library.specs.AskedFile.{Found, absent, sound, faulty, FileFound, text_of, answered_of, IsTold, IsOfText}
use Rattle.file_library.specs.AskAll.{answers_of, Agrees}
use Rattle.file_library.specs.SortedOut.{AreRising, fault_at, has_fault, IsFaultAt, IsFaultFor, AreSortedOut, AreOrdered, AreRoots, AreJustAsked}
use Rattle.file_library.specs.declared.fault.Fault.{Fault}
use Rattle.file_library.specs.declared.sorted_out.SortedOut.{SortedOut}
use Rattle.file_library.proofs.LoadsFound.{answer_in, named_file}
use Rattle.file_library.proofs.Lookups.{name_in}
use Rattle.file_library.proofs.NextWaveLemmas.{has_key, has_no_key}

-- the partners in lists side by side

right_partner : {X Y : Type 0} (R : X → Y → Type 0) (xs : List X) (ys : List Y) (x : X) → AllZip R xs ys → Contains xs x → (y : Y) × Contains ys y × R x y
right_partner {X} {Y} R [] ys x zip has = absurd (nothing_in x has)
right_partner {X} {Y} R (p ∷ xs) [] x zip has = absurd zip
right_partner {X} {Y} R (p ∷ xs) (q ∷ ys) x zip has = elim (first_or_rest p x xs has) [
  | inl is ↦ (q, in_first q ys, subst (λ w. R w q) is zip.0)
  | inr later ↦ let from = right_partner R xs ys x zip.1 later in (from.0, in_rest q from.0 ys from.1, from.2)
]

pub left_partner : {X Y : Type 0} (R : X → Y → Type 0) (xs : List X) (ys : List Y) (y : Y) → AllZip R xs ys → Contains ys y → (x : X) × Contains xs x × R x y
left_partner {X} {Y} R xs [] y zip has = absurd (nothing_in y has)
left_partner {X} {Y} R [] (q ∷ ys) y zip has = absurd zip
left_partner {X} {Y} R (p ∷ xs) (q ∷ ys) y zip has = elim (first_or_rest q y ys has) [
  | inl is ↦ (p, in_first p xs, subst (λ w. R p w) is zip.0)
  | inr later ↦ let from = left_partner R xs ys y zip.1 later in (from.0, in_rest p from.0 xs from.1, from.2)
]

-- the faults of files in order are in order

fault_name : (name : List ℕ) (found : Found) (fault : Fault) → IsFaultAt name found fault → fault.file ≡ name
fault_name name absent fault is = ap (λ (f : Fault). f.file) is
fault_name name (sound text facts) fault is = absurd is
fault_name name (faulty text refusal) fault is = is.0

all_later : (name : List ℕ) (files : List FileFound) (faults : List Fault) → AllZip IsFaultFor files faults → ((file : FileFound) → Contains files file → slice_cmp nat_cmp name file.name ≡ Less)
    → AllByRecursion (λ n. slice_cmp nat_cmp name n ≡ Less) (map (λ (fault : Fault). fault.file) faults)
all_later name files [] zip less = tt
all_later name [] (fault ∷ faults) zip less = absurd zip
all_later name (file ∷ files) (fault ∷ faults) zip less = (
  subst (λ n. slice_cmp nat_cmp name n ≡ Less) (sym (fault_name file.name file.found fault zip.0)) (less file (in_first file files)),
  all_later name files faults zip.1 (λ other has. less other (in_rest file other files has)),
)

faults_rise : (files : List FileFound) (faults : List Fault) → AllZip IsFaultFor files faults → AreRising files → AreInOrder (map (λ (fault : Fault). fault.file) faults)
unfolding IsStrictlySortedBy
faults_rise files [] zip up = tt
faults_rise [] (fault ∷ faults) zip up = absurd zip
faults_rise (file ∷ files) (fault ∷ faults) zip up = (
  all_later fault.file files faults zip.1
      (λ other has. subst (λ n. slice_cmp nat_cmp n other.name ≡ Less) (sym (fault_name file.name file.found fault zip.0)) (before_rest (λ a b. slice_cmp nat_cmp a.name b.name ≡ Less) file other files up has)),
  faults_rise files faults zip.1 (rest_in_order (λ a b. slice_cmp nat_cmp a.name b.name ≡ Less) file files up),
)

-- what holds of a file with a load fault, and of its fault

module _ (files : Files) (roots : List (List ℕ)) (set : BTreeSet (List ℕ)) (in_set : AreRoots roots set) where
  -- the fault of an asked file is a load fault
  fault_loads : (name : List ℕ) (found : Found) (fault : Fault) → IsAskedIn files roots name → files name ≡ text_of found → IsTold name found
      → fault_at set name found ≡ true → IsFaultAt name found fault → IsLoadFault files roots fault
  fault_loads name absent fault asked there told passes is =
      let same : fault.file ≡ name = ap (λ (f : Fault). f.file) is in
      inl (record {
        root = subst (Contains roots) (sym same) (in_set.sound name (has_key set name passes));
        none = ap files same ∙ there;
        cause = ap (λ (f : Fault). f.cause) is;
        offset = ap (λ (f : Fault). f.offset) is;
        place = ap (λ (f : Fault). f.place) is;
      })
  fault_loads name (sound text facts) fault asked there told passes is = absurd is
  fault_loads name (faulty text refusal) fault asked there told passes is =
      let cause = sym is.1 in
      let offset = sym is.2 in
      let whole : refusal ≡ record { cause = fault.cause; offset = fault.offset } = λ i. record { cause = cause i; offset = offset i } in
      inr (record {
        asked = subst (IsAskedIn files roots) (sym is.0) asked;
        text = text;
        there = ap files is.0 ∙ there;
        has = subst (λ n. HasFault n text (record { cause = fault.cause; offset = fault.offset })) (sym is.0) (subst (HasFault name text) whole told.0);
        stands = subst (λ o. IsPlace text o fault.place) (sym is.2) is.3;
      })

  in_keys : (name : List ℕ) → Contains roots name → contains (slice_cmp nat_cmp) set name ≡ true
  in_keys name has = at (contains (slice_cmp nat_cmp) set name) refl
    where
      at : (answer : Bool) → contains (slice_cmp nat_cmp) set name ≡ answer → answer ≡ true
      at true is = refl
      at false is = absurd (has_no_key set name is (in_set.all name has))

  -- a file with a load fault is one that has a fault
  loads_kept : (name : List ℕ) (found : Found) (fault : Fault) → fault.file ≡ name → files name ≡ text_of found → IsTold name found → IsLoadFault files roots fault → fault_at set name found ≡ true
  loads_kept name absent fault same there told (inl no_root) = in_keys name (subst (Contains roots) same no_root.root)
  loads_kept name absent fault same there told (inr of) = let both : Some of.text ≡ None = sym of.there ∙ (ap files same ∙ there) in absurd (cc)
  loads_kept name (sound text facts) fault same there told (inl no_root) = let both : None ≡ Some text = sym no_root.none ∙ (ap files same ∙ there) in absurd (cc)
  loads_kept name (sound text facts) fault same there told (inr of) =
      let one : of.text ≡ text = some_once (sym of.there ∙ (ap files same ∙ there)) in
      let whole : Refusal = record { cause = fault.cause; offset = fault.offset } in
      absurd (faulty_no_facts name text whole facts (subst (λ t. HasFault name t whole) one (subst (λ n. HasFault n of.text whole) same of.has)) told)
  loads_kept name (faulty text refusal) fault same there told is = refl

  -- the fault of a file is its one load fault
  one_fault : (name : List ℕ) (found : Found) (fault other : Fault) → fault.file ≡ name → files name ≡ text_of found → IsTold name found → IsLoadFault files roots fault → IsFaultAt name found other → other ≡ fault
  one_fault name absent fault other same there told (inl no_root) is =
      let file = sym same in
      let offset = sym no_root.offset in
      let place = sym no_root.place in
      let cause = sym no_root.cause in
      let rest : record { file = name; offset = 0; place = record { line = 0; column = 0 }; cause = NoRoot } ≡ fault = λ i. record { file = file i; offset = offset i; place = place i; cause = cause i } in
      is ∙ rest
  one_fault name absent fault other same there told (inr of) is = let both : Some of.text ≡ None = sym of.there ∙ (ap files same ∙ there) in absurd (cc)
  one_fault name (sound text facts) fault other same there told load is = absurd is
  one_fault name (faulty text refusal) fault other same there told (inl no_root) is = let both : None ≡ Some text = sym no_root.none ∙ (ap files same ∙ there) in absurd (cc)
  one_fault name (faulty text refusal) fault other same there told (inr of) is =
      let one : of.text ≡ text = some_once (sym of.there ∙ (ap files same ∙ there)) in
      let whole : Refusal = record { cause = fault.cause; offset = fault.offset } in
      let refused : refusal ≡ whole = same_fault name text refusal whole told.0 (subst (λ t. HasFault name t whole) one (subst (λ n. HasFault n of.text whole) same of.has)) in
      let file : other.file ≡ fault.file = is.0 ∙ sym same in
      let cause : other.cause ≡ fault.cause = is.1 ∙ ap (λ (r : Refusal). r.cause) refused in
      let back : refusal.offset ≡ fault.offset = ap (λ (r : Refusal). r.offset) refused in
      let offset : other.offset ≡ fault.offset = is.2 ∙ back in
      let place : other.place ≡ fault.place = place_once text refusal.offset other.place fault.place is.3
      (subst (λ o. IsPlace text o fault.place) (sym back) (subst (λ t. IsPlace t fault.offset fault.place) one of.stands)) in
      λ i. record { file = file i; offset = offset i; place = place i; cause = cause i }

  pub fault_asked : (fault : Fault) → IsLoadFault files roots fault → IsAskedIn files roots fault.file
  fault_asked fault (inl no_root) = (0, no_root.root)
  fault_asked fault (inr of) = of.asked

-- the faults of the files that were sorted out are all the load faults
pub all_faults : (files : Files) (roots : List (List ℕ)) (found sorted : List FileFound) (set : BTreeSet (List ℕ)) (out : SortedOut)
    → Agrees files (answers_of found) → AreJustAsked files roots (names_of (answers_of found)) → All IsOfText found
    → AreOrdered found sorted → AreRoots roots set → AreSortedOut set sorted out
    → AreLoadFaults files roots out.faults.items
all_faults files roots found sorted set out agrees asked texts ordered in_set put = record {
  ordered = faults_rise kept out.faults.items put.faults (AllPairs-filter (λ a b. slice_cmp nat_cmp a.name b.name ≡ Less) (has_fault set) sorted ordered.rising);
  sound = λ k d within.
      let fault = get_or out.faults.items k d in
      let from = left_partner IsFaultFor kept out.faults.items fault put.faults (Contains-get_or out.faults.items k d within) in
      let file = from.0 in
      let in_found = Contains-permutation sorted found file (IsPermutation-sym found sorted ordered.moved) (kept_there (has_fault set) sorted file from.1) in
      let passes = holds_of (λ f. has_fault set f ≡ true) kept file (filter_passes (has_fault set) sorted) from.1 in
      fault_loads files roots set in_set file.name file.found fault
      (asked.sound file.name (name_in (answers_of found) (answered_of file) (answer_in found file in_found))) (there file in_found) (told file in_found) passes from.2;
  all = λ fault is.
      let named = named_file found fault.file (asked.all fault.file (fault_asked files roots set in_set fault is)) in
      let file = named.0 in
      let same = sym named.2 in
      let passes = loads_kept files roots set in_set file.name file.found fault same (there file named.1) (told file named.1) is in
      let partner = right_partner IsFaultFor kept out.faults.items file put.faults
      (kept_in (has_fault set) sorted file (Contains-permutation found sorted file ordered.moved named.1) passes) in
      subst (Contains out.faults.items)
      (one_fault files roots set in_set file.name file.found fault partner.0 same (there file named.1) (told file named.1) is partner.2) partner.1;
}
  where
    kept : List FileFound
    kept = filter (has_fault set) sorted

    there : (file : FileFound) → Contains found file → files file.name ≡ text_of file.found
    there file has = agrees (answered_of file) (answer_in found file has)

    told : (file : FileFound) → Contains found file → IsOfText file
    told file has = holds_of IsOfText found file texts has
