-- Members of lists that are joined or counted.
use Rattle.std.proofs.Common.{◌≡◌, ℕ, zero, suc, ◌+◌, ◌<◌, List, [], ◌∷◌, Some, AllPairs, Contains, flat_map, inl, inr, refl, sym, ap, subst, arith}
use Rattle.std.specs.Prelude.{slice_get}
use Rattle.std.specs.List.{enumerate_from}
use Rattle.std.proofs.lemmas.List.Elements.{Contains-append_cases, Contains-append_left, Contains-append_right}
use Rattle.std.proofs.lemmas.List.Kept.{AllPairs-cons}
use Rattle.list_laws.proofs.OneOrder.{nothing_in, first_or_rest, in_first, in_rest}
use Rattle.import_rules.proofs.Lists.{all_by}

pub flat_map_from : {X Y : Type 0} (f : X → List Y) (xs : List X) (y : Y) → Contains (flat_map f xs) y → (x : X) × Contains xs x × Contains (f x) y
flat_map_from {X} {Y} f [] y has = absurd (nothing_in y has)
flat_map_from {X} {Y} f (x ∷ xs) y has =
    elim (Contains-append_cases (f x) (flat_map f xs) y has) [
      | inl here ↦ (x, in_first x xs, here)
      | inr later ↦ let from = flat_map_from f xs y later in (from.0, in_rest x from.0 xs from.1, from.2)
    ]

pub flat_map_has : {X Y : Type 0} (f : X → List Y) (xs : List X) (x : X) (y : Y) → Contains xs x → Contains (f x) y → Contains (flat_map f xs) y
flat_map_has {X} {Y} f [] x y has there = absurd (nothing_in x has)
flat_map_has {X} {Y} f (z ∷ xs) x y has there =
    elim (first_or_rest z x xs has) [
      | inl same ↦ Contains-append_left (f z) (flat_map f xs) y (subst (λ w. Contains (f w) y) (sym same) there)
      | inr later ↦ Contains-append_right (f z) (flat_map f xs) y (flat_map_has f xs x y later there)
    ]

-- where nothing is joined, each part is empty
pub empty_at : {X Y : Type 0} (f : X → List Y) (xs : List X) (x : X) → flat_map f xs ≡ [] → Contains xs x → f x ≡ []
empty_at {X} {Y} f xs x none has = at (f x) refl
  where
    at : (ys : List Y) → f x ≡ ys → f x ≡ []
    at [] is = is
    at (y ∷ ys) is =
        let there : Contains (flat_map f xs) y = flat_map_has f xs x y has (subst (λ zs. Contains zs y) (sym is) (in_first y ys)) in
        absurd (nothing_in y (subst (λ zs. Contains zs y) none there))

-- what is counted, with its place

pub counted_from : {X : Type 0} (n : ℕ) (xs : List X) (e : ℕ × X) → Contains (enumerate_from n xs) e → (k : ℕ) × (e.0 ≡ n + k) × (slice_get xs k ≡ Some e.1)
counted_from {X} n [] e has = absurd (nothing_in e has)
counted_from {X} n (x ∷ xs) e has =
    elim (first_or_rest (n, x) e (enumerate_from (n + 1) xs) has) [
      | inl same ↦
          let first : n ≡ e.0 = ap (λ (y : ℕ × X). y.0) same in
          let place : e.0 ≡ n + 0 = omega (arith, first) in
          (0, place, ap (λ (y : ℕ × X). Some y.1) same)
      | inr later ↦
          let from = counted_from (n + 1) xs e later in
          let place : e.0 ≡ n + suc from.0 = omega (arith, from.1) in
          (suc from.0, place, from.2)
    ]

pub counted_has : {X : Type 0} (n : ℕ) (xs : List X) (k : ℕ) (x : X) → slice_get xs k ≡ Some x → Contains (enumerate_from n xs) (n + k, x)
counted_has {X} n [] k x is = cc
counted_has {X} n (y ∷ xs) zero x is =
    let same : y ≡ x = cc in
    let place : n ≡ n + 0 = omega arith in
    subst (Contains (enumerate_from n (y ∷ xs))) (λ i. (place i, same i)) (in_first (n, y) (enumerate_from (n + 1) xs))
counted_has {X} n (y ∷ xs) (suc k) x is =
    let place : (n + 1) + k ≡ n + suc k = omega arith in
    in_rest (n, y) (n + suc k, x) (enumerate_from (n + 1) xs) (subst (λ j. Contains (enumerate_from (n + 1) xs) (j, x)) place (counted_has (n + 1) xs k x is))

pub counted_rise : {X : Type 0} (n : ℕ) (xs : List X) → AllPairs (λ (a b : ℕ × X). a.0 < b.0) (enumerate_from n xs)
counted_rise {X} n [] = λ i j d before within. absurd (omega (arith, within))
counted_rise {X} n (x ∷ xs) =
    AllPairs-cons (λ (a b : ℕ × X). a.0 < b.0) (n, x) (enumerate_from (n + 1) xs)
    (all_by (λ (b : ℕ × X). n < b.0) (enumerate_from (n + 1) xs) (λ e has. omega (arith, (counted_from (n + 1) xs e has).1))) (counted_rise (n + 1) xs)
