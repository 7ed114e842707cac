-- Binary searches: whether something is there that ties.
use Rattle.std.proofs.Common.{◌≡◌, ℕ, ◌+◌, List, [], ◌∷◌, Result, Ok, Err, AllPairs, is_ok, length, get_or, sym, ap, ◌∙◌, inl, inr, arith}
use Rattle.std.specs.Cmp.{IsTotalOrder}
use Rattle.std.specs.List.{list_any}
use Rattle.std.specs.List.Sorted.{IsSortedBy, IsBinarySearchResult, IsSearchInRange}
use Rattle.std.specs.Ordering.{is_eq, is_lt, ordering_reverse}
use Rattle.std.specs.declared.cmp.Ordering.{Ordering}
use Rattle.std.specs.declared.cmp.Ordering.TheVariants.{Less}
use Rattle.std.proofs.lemmas.Bool.{cases_lt}
use Rattle.std.proofs.lemmas.Cmp.{tied_back}
use Rattle.std.proofs.lemmas.List.Folds.{list_any_at, list_any_none}
use Rattle.std.proofs.lemmas.List.Sorted.{searchable_from_sorted}
use Rattle.import_rules.proofs.Runs.{comes_before}

module _ {X K : Type 0} (cmp : K → K → Ordering) (o : IsTotalOrder cmp) (key : X → K) where
  -- what rises is sorted
  pub sorted_from_rising : (xs : List X) → AllPairs (λ a b. cmp (key a) (key b) ≡ Less) xs → IsSortedBy (comes_before cmp key) xs
  sorted_from_rising xs up k d low within =
      ap is_lt (o.antisymm (key (get_or xs (k + 1) d)) (key (get_or xs k d)) ∙ ap ordering_reverse (up k (k + 1) d (omega arith) within))

  -- a binary search of what is sorted finds something just where it is there
  pub searched : (x : K) (xs : List X) (r : Result ℕ ℕ) → IsSortedBy (comes_before cmp key) xs → IsSearchInRange r (length xs) → IsBinarySearchResult (λ y. cmp (key y) x) xs r
      → is_ok r ≡ list_any (λ y. is_eq (cmp x (key y))) xs
  searched x [] (Ok i) sorted range search = let no : ⊥ = omega (arith, range) in absurd no
  searched x (first ∷ xs) (Ok i) sorted range search =
      sym (list_any_at (λ y. is_eq (cmp x (key y))) (first ∷ xs) i first range (ap is_eq (tied_back o (key (get_or (first ∷ xs) i first)) x (search first))))
  searched x xs (Err i) sorted range search =
      let parts = search (searchable_from_sorted o key xs x sorted) in
      sym
      (list_any_none (λ y. is_eq (cmp x (key y))) xs
      (λ k d below.
      elim (cases_lt k i) [
        | inl lower ↦ ap is_eq (o.antisymm x (key (get_or xs k d)) ∙ ap ordering_reverse (parts.0 k d (omega arith) lower))
        | inr upper ↦ ap is_eq (o.antisymm x (key (get_or xs k d)) ∙ ap ordering_reverse (parts.1 k d upper below))
      ]))
