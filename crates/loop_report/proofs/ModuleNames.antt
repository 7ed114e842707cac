-- What a sort, a removal of neighbours and a binary search say of names that are lent.
use Rattle.std.proofs.Common.{◌≡◌, ℕ, ◌+◌, ◌<◌, Bool, List, [], ◌∷◌, Some, slice_get, length, map, get_or, nat_eq, Contains, IsPermutation, sym, subst, ◌∙◌, ap, inl, inr, arith}
use Rattle.std.specs.Borrow.{Bor}
use Rattle.std.specs.List.{HoldsAt, dedup}
use Rattle.std.specs.List.Sorted.{IsSorted, IsSortedBy, IsStrictlySortedBy, IsNonDecreasingBy, IsPartitionPoint}
use Rattle.std.specs.Ordering.{nat_cmp, is_lt, eq_by_cmp, ordering_index, ordering_reverse}
use Rattle.std.specs.Cmp.{IsTotalOrder, IsEquivalence}
use Rattle.std.specs.Cmp.Lexicographic.{slice_cmp, pointwise, texts_ties}
use Rattle.std.specs.declared.cmp.Ordering.{Ordering}
use Rattle.std.specs.declared.cmp.Ordering.TheVariants.{Less, Equal, Greater}
use Rattle.std.proofs.lemmas.Bool.{cases_lt}
use Rattle.std.proofs.lemmas.Cmp.{on_total, on_equiv, nat_list_cmp_total, nat_list_eq_equiv, tied_itself}
use Rattle.std.proofs.lemmas.List.{get_or-map, length-map}
use Rattle.std.proofs.lemmas.List.Elements.{All-map, Contains-get_or}
use Rattle.std.proofs.lemmas.List.Kept.{AllPairs-cons, Any-dedup, Contains-from_dedup, IsStrictlySortedBy-dedup}
use Rattle.std.proofs.lemmas.List.Sorted.{Contains-permutation, IsPermutation-sym, searchable_from_sorted}
use Rattle.std.proofs.lemmas.Map.Keys.{sorted_tail}
use Rattle.std.proofs.lemmas.Map.Views.{All-after_first}
use Rattle.std.proofs.lemmas.Option.{slice_get-get_or}
use Rattle.std.proofs.lemmas.Slice.Eq.{bytes_eq-Decides}
use Rattle.list_laws.proofs.Members.{map_from, map_has}
use Rattle.module_table.specs.Facts.{Facts}
use Rattle.import_rules.proofs.NameOrder.{same_text}
use Rattle.loop_report.specs.ImportLoops.{AreModules}
use Rattle.loop_report.specs.ModuleGraph.{AreRising, texts_of}

abbrev pub lent_cmp : Bor (List ℕ) → Bor (List ℕ) → Ordering
lent_cmp a b = slice_cmp nat_cmp a.now b.now

abbrev pub lent_eq : Bor (List ℕ) → Bor (List ℕ) → Bool
lent_eq a b = pointwise nat_eq a.now b.now

abbrev lent_now : Bor (List ℕ) → List ℕ
lent_now a = a.now

lent_total : IsTotalOrder lent_cmp
lent_total = on_total lent_now nat_list_cmp_total

lent_equiv : IsEquivalence lent_eq
lent_equiv = on_equiv lent_now nat_list_eq_equiv

lent_ties : (a b : Bor (List ℕ)) → lent_eq a b ≡ eq_by_cmp lent_cmp a b
lent_ties a b = texts_ties a.now b.now

rising_texts : (lent : List (Bor (List ℕ))) → IsStrictlySortedBy lent_cmp lent → AreRising (texts_of lent)
rising_texts [] up = λ i j d lt within. absurd (omega (arith, within))
rising_texts (a ∷ lent) up =
    AllPairs-cons (λ m n. slice_cmp nat_cmp m n ≡ Less) a.now (texts_of lent)
    (All-map (λ n. slice_cmp nat_cmp a.now n ≡ Less) lent_now lent (All-after_first lent_cmp a lent up)) (rising_texts lent (sorted_tail lent_cmp a lent up))

abbrev module_of : Facts → List ℕ
module_of f = f.module_

pub modules_made : (files : List Facts) (lent sorted kept : List (Bor (List ℕ))) → texts_of lent ≡ map (λ (f : Facts). f.module_) files → IsPermutation lent sorted
    → IsSorted lent_cmp sorted → kept ≡ dedup lent_eq sorted → AreModules files (texts_of kept)
modules_made files lent sorted kept are moved up is =
    let there : (b : Bor (List ℕ)) → Contains kept b → (f : Facts) × Contains files f × (f.module_ ≡ b.now) = λ b has.
    let in_sorted = Contains-from_dedup lent_eq sorted b (subst (λ xs. Contains xs b) is has) in
    let in_lent = Contains-permutation sorted lent b (IsPermutation-sym lent sorted moved) in_sorted in
    map_from module_of files b.now (subst (λ names. Contains names b.now) are (map_has lent_now lent b in_lent)) in
    let all : (f : Facts) → Contains files f → Contains (texts_of kept) f.module_ = λ f has.
    let named = map_from lent_now lent f.module_ (subst (λ names. Contains names f.module_) (sym are) (map_has module_of files f has)) in
    let in_sorted = Contains-permutation lent sorted named.0 moved named.1 in
    let same = Any-dedup lent_equiv sorted named.0 in_sorted in
    let in_kept : Contains kept same.1 = subst (λ xs. Contains xs same.1) (sym is) (same.0, same.2, same.3) in
    subst (Contains (texts_of kept)) (sym ((bytes_eq-Decides named.0.now same.1.now).0 same.4) ∙ named.2) (map_has lent_now kept same.1 in_kept) in
    record {
      in_order = rising_texts kept (subst (IsStrictlySortedBy lent_cmp) (sym is) (IsStrictlySortedBy-dedup lent_total lent_ties sorted up));
      each =
          All-map (λ m. (f : Facts) × Contains files f × (f.module_ ≡ m)) lent_now kept
          (λ k d lt. there (get_or kept k d) (Contains-get_or kept k d lt));
      all = λ k d lt. all (get_or files k d) (Contains-get_or files k d lt);
    }

-- texts that compare alike are one
pub found : (names : List (Bor (List ℕ))) (wanted : Bor (List ℕ)) (place : ℕ) → place < length names
    → HoldsAt (λ y. lent_cmp y wanted ≡ Equal) names place → slice_get (texts_of names) place ≡ Some wanted.now
found names wanted place within tie =
    slice_get-get_or (texts_of names) place wanted.now (omega (arith, within, length-map names lent_now))
    ∙ ap (λ x. Some x) (get_or-map lent_now names place wanted wanted.now within ∙ same_text (get_or names place wanted).now wanted.now (tie wanted))

sorted_from_rising : (names : List (Bor (List ℕ))) → AreRising (texts_of names) → IsSortedBy (λ a b. is_lt (lent_cmp a b)) names
sorted_from_rising names up k d low within =
    let inside : k < length names = omega (arith, within) in
    let less : lent_cmp (get_or names k d) (get_or names (k + 1) d) ≡ Less =
    subst (λ m. slice_cmp nat_cmp m (get_or names (k + 1) d).now ≡ Less) (get_or-map lent_now names k d d.now inside)
    (subst (λ n. slice_cmp nat_cmp (get_or (texts_of names) k d.now) n ≡ Less) (get_or-map lent_now names (k + 1) d d.now within)
    (up k (k + 1) d.now (omega arith) (omega (arith, within, length-map names lent_now)))) in
    ap is_lt (lent_total.antisymm (get_or names (k + 1) d) (get_or names k d) ∙ ap ordering_reverse less)

pub absent : (names : List (Bor (List ℕ))) (wanted : Bor (List ℕ)) (place : ℕ) → AreRising (texts_of names)
    → (IsNonDecreasingBy (λ y. ordering_index (lent_cmp y wanted)) names → IsPartitionPoint (λ y. lent_cmp y wanted ≡ Less) (λ y. lent_cmp y wanted ≡ Greater) names place)
    → Contains (texts_of names) wanted.now → ⊥
absent names wanted place up split has =
    let parts = split (searchable_from_sorted lent_total (λ (x : Bor (List ℕ)). x) names wanted (sorted_from_rising names up)) in
    let there = map_from lent_now names wanted.now has in
    let tie : lent_cmp there.0 wanted ≡ Equal = ap (λ n. slice_cmp nat_cmp n wanted.now) there.2 ∙ tied_itself nat_list_cmp_total wanted.now in
    let at : lent_cmp (get_or names there.1.0 there.0) wanted ≡ Equal = ap (λ (x : Bor (List ℕ)). lent_cmp x wanted) there.1.2 ∙ tie in
    elim (cases_lt there.1.0 place) [
      | inl below ↦ let less = parts.0 there.1.0 there.0 (omega arith) below in cc
      | inr above ↦ let greater = parts.1 there.1.0 there.0 above there.1.1 in cc
    ]
