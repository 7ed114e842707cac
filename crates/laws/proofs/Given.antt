-- What is given of names one by one.
use Rattle.std.proofs.Common.{◌≡◌, ℕ, ◌≤◌, List, [], ◌∷◌, Option, Some, None, Contains, map, sum_by, refl, sym, subst, ap, ◌∙◌, inl, inr, arith}
use Rattle.std.specs.List.{cons_option, filter_map, AllByRecursion}
use Rattle.std.specs.List.Sorted.{IsStrictlySortedBy}
use Rattle.std.specs.Ordering.{nat_cmp}
use Rattle.std.specs.Cmp.Lexicographic.{slice_cmp}
use Rattle.std.specs.declared.cmp.Ordering.TheVariants.{Less}
use Rattle.std.proofs.lemmas.List.Sums.{sum_by-cons}
use Rattle.list_laws.proofs.OneOrder.{nothing_in, first_or_rest, in_rest, in_first}
use Rattle.file_library.specs.Asked.{AreInOrder}
use Rattle.file_library.proofs.WaveLaws.{Names}

module _ {Y : Type 0} (give : List ℕ → Option Y) where
  pub given_in : (names : Names) (name : List ℕ) (y : Y) → Contains names name → give name ≡ Some y → Contains (filter_map give names) y
  given_in [] name y has is = absurd (nothing_in name has)
  given_in (first ∷ names) name y has is =
      elim (first_or_rest first name names has) [
        | inl same ↦ subst (λ o. Contains (cons_option o (filter_map give names)) y) (sym (ap give same ∙ is)) (in_first y (filter_map give names))
        | inr later ↦ behind (give first) (given_in names name y later is)
      ]
    where
      behind : (o : Option Y) → Contains (filter_map give names) y → Contains (cons_option o (filter_map give names)) y
      behind None there = there
      behind (Some z) there = in_rest z y (filter_map give names) there

  pub given_from : (names : Names) (y : Y) → Contains (filter_map give names) y → (name : List ℕ) × Contains names name × (give name ≡ Some y)
  given_from [] y has = absurd (nothing_in y has)
  given_from (first ∷ names) y has = at (λ there. given_from names y there) (give first) refl has
    where
      later : ((name : List ℕ) × Contains names name × (give name ≡ Some y)) → (name : List ℕ) × Contains (first ∷ names) name × (give name ≡ Some y)
      later from = (from.0, in_rest first from.0 names from.1, from.2)

      at : (Contains (filter_map give names) y → (name : List ℕ) × Contains names name × (give name ≡ Some y)) → (o : Option Y) → give first ≡ o
          → Contains (cons_option o (filter_map give names)) y → (name : List ℕ) × Contains (first ∷ names) name × (give name ≡ Some y)
      at on None is there = later (on there)
      at on (Some z) is there = elim (first_or_rest z y (filter_map give names) there) [
        | inl same ↦ (first, in_first first names, is ∙ ap (λ w. Some w) same)
        | inr rest ↦ later (on rest)
      ]

  -- where nothing is given at all, nothing is given for any name
  pub none_given : (names : Names) (name : List ℕ) → filter_map give names ≡ [] → Contains names name → give name ≡ None
  none_given names name none has = at (give name) refl
    where
      at : (o : Option Y) → give name ≡ o → give name ≡ None
      at None is = is
      at (Some y) is = absurd (nothing_in y (subst (λ ys. Contains ys y) none (given_in names name y has is)))

  module _ (key : Y → List ℕ) (named : (name : List ℕ) (y : Y) → give name ≡ Some y → key y ≡ name) where
    -- what is given with its name is in the order of the names
    pub given_rise : (names : Names) → AreInOrder names → AreInOrder (map key (filter_map give names))
    unfolding IsStrictlySortedBy
    given_rise [] up = tt
    given_rise (first ∷ names) up = at (given_rise names up.1) (give first) refl
      where
        lower : (x : List ℕ) (others : Names) → AllByRecursion (λ n. slice_cmp nat_cmp x n ≡ Less) others → AllByRecursion (λ n. slice_cmp nat_cmp x n ≡ Less) (map key (filter_map give others))
        lower x [] all = tt
        lower x (other ∷ others) all = over (lower x others all.1) (give other) refl
          where
            over : AllByRecursion (λ n. slice_cmp nat_cmp x n ≡ Less) (map key (filter_map give others)) → (o : Option Y) → give other ≡ o
                → AllByRecursion (λ n. slice_cmp nat_cmp x n ≡ Less) (map key (cons_option o (filter_map give others)))
            over rest None is = rest
            over rest (Some y) is = (subst (λ n. slice_cmp nat_cmp x n ≡ Less) (sym (named other y is)) all.0, rest)

        at : AreInOrder (map key (filter_map give names)) → (o : Option Y) → give first ≡ o → AreInOrder (map key (cons_option o (filter_map give names)))
        at rest None is = rest
        at rest (Some y) is = (subst (λ n. AllByRecursion (λ m. slice_cmp nat_cmp n m ≡ Less) (map key (filter_map give names))) (sym (named first y is)) (lower first names up.0), rest)

    -- and no larger together than the names
    pub given_sum : (size : List ℕ → ℕ) (names : Names) → sum_by size (map key (filter_map give names)) ≤ sum_by size names
    given_sum size [] = omega arith
    given_sum size (first ∷ names) = at (given_sum size names) (give first) refl
      where
        at : sum_by size (map key (filter_map give names)) ≤ sum_by size names → (o : Option Y) → give first ≡ o
            → sum_by size (map key (cons_option o (filter_map give names))) ≤ sum_by size (first ∷ names)
        at rest None is = omega (arith, rest, sum_by-cons size first names)
        at rest (Some y) is = omega (arith, rest, ap size (named first y is), sum_by-cons size first names, sum_by-cons size (key y) (map key (filter_map give names)))
