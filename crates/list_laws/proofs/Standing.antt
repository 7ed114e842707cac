-- Sums over lists of which one element changes, and over lists that are read past their end as nothing.
use Rattle.std.proofs.Common.{◌≡◌, ℕ, zero, suc, ◌≤◌, ◌+◌, List, [], ◌∷◌, ◌++◌, length, map, get_or, set, refl, ap, sym, arith}
use mathlib.Core.Option.{some, some-injective, some-ne-none}
use lib.ListN.{get_elem?}
use Rattle.list_laws.specs.Counts.{times, flat, total}
use Rattle.list_laws.proofs.Counting.{times-append}

module _ {A : Type 0} (f : A → ℕ) where
  pub total_set : (vs : List A) (k : ℕ) (v w : A) → get_elem? vs k ≡ some v → total f (set vs k w) + f v ≡ total f vs + f w
  total_set [] k v w at = absurd (some-ne-none v (sym at))
  total_set (u ∷ us) zero v w at = let same : f u ≡ f v = ap f (some-injective u v at) in omega (arith, same)
  total_set (u ∷ us) (suc k) v w at = let rest = total_set us k v w at in omega (arith, rest)

  pub total_snoc : (vs : List A) (w : A) → total f (vs ++ w ∷ []) ≡ total f vs + f w
  total_snoc [] w = omega arith
  total_snoc (u ∷ us) w = let rest = total_snoc us w in omega (arith, rest)

  pub total_least : (vs : List A) (k : ℕ) (v : A) → get_elem? vs k ≡ some v → f v ≤ total f vs
  total_least [] k v at = absurd (some-ne-none v (sym at))
  total_least (u ∷ us) zero v at = let same : f u ≡ f v = ap f (some-injective u v at) in omega (arith, same)
  total_least (u ∷ us) (suc k) v at = let rest = total_least us k v at in omega (arith, rest)

-- past the end there is d, which counts for nothing
module _ {A : Type 0} (f : A → ℕ) (d : A) (none : f d ≡ 0) where
  total_none : (xs : List A) → ((i : ℕ) → get_or xs i d ≡ d) → total f xs ≡ 0
  total_none [] each = refl
  total_none (x ∷ xs) each =
      let here : f x ≡ f d = ap f (each 0) in
      let rest : total f xs ≡ 0 = total_none xs (λ i. each (suc i)) in
      omega (arith, here, rest, none)

  -- lists that read the same have one sum
  pub total_same : (old new : List A) → ((i : ℕ) → f (get_or new i d) ≡ f (get_or old i d)) → total f new ≡ total f old
  total_same [] [] same = refl
  total_same [] (y ∷ ys) same =
      let here : f y ≡ f d = same 0 in
      let rest : total f ys ≡ 0 = total_same [] ys (λ i. same (suc i)) in
      omega (arith, here, rest, none)
  total_same (x ∷ xs) [] same =
      let here : f d ≡ f x = same 0 in
      let rest : 0 ≡ total f xs = total_same xs [] (λ i. same (suc i)) in
      omega (arith, here, rest, none)
  total_same (x ∷ xs) (y ∷ ys) same =
      let here : f y ≡ f x = same 0 in
      let rest : total f ys ≡ total f xs = total_same xs ys (λ i. same (suc i)) in
      omega (arith, here, rest)

  -- and lists that read less have no greater sum
  pub total_less : (old new : List A) → ((i : ℕ) → f (get_or new i d) ≤ f (get_or old i d)) → total f new ≤ total f old
  total_less [] [] less = omega arith
  total_less [] (y ∷ ys) less =
      let here : f y ≤ f d = less 0 in
      let rest : total f ys ≤ 0 = total_less [] ys (λ i. less (suc i)) in
      omega (arith, here, rest, none)
  total_less (x ∷ xs) [] less = omega arith
  total_less (x ∷ xs) (y ∷ ys) less =
      let here : f y ≤ f x = less 0 in
      let rest : total f ys ≤ total f xs = total_less xs ys (λ i. less (suc i)) in
      omega (arith, here, rest)

  -- where all but one read the same, the sums differ by that one
  pub total_at : (old new : List A) (place : ℕ) → ((i : ℕ) → (i ≡ place → ⊥) → get_or new i d ≡ get_or old i d)
      → total f new + f (get_or old place d) ≡ total f old + f (get_or new place d)
  total_at [] [] place same = refl
  total_at [] (y ∷ ys) zero same =
      let rest : total f ys ≡ 0 = total_none ys (λ i. same (suc i) (λ is. omega (arith, is))) in
      omega (arith, rest, none)
  total_at [] (y ∷ ys) (suc place) same =
      let here : f y ≡ f d = ap f (same 0 (λ is. omega (arith, is))) in
      let rest : total f ys + f d ≡ 0 + f (get_or ys place d) = total_at [] ys place (λ i ne. same (suc i) (λ is. ne (omega (arith, is)))) in
      omega (arith, here, rest, none)
  total_at (x ∷ xs) [] zero same =
      let rest : total f xs ≡ 0 = total_none xs (λ i. sym (same (suc i) (λ is. omega (arith, is)))) in
      omega (arith, rest, none)
  total_at (x ∷ xs) [] (suc place) same =
      let here : f d ≡ f x = ap f (same 0 (λ is. omega (arith, is))) in
      let rest : 0 + f (get_or xs place d) ≡ total f xs + f d = total_at xs [] place (λ i ne. same (suc i) (λ is. ne (omega (arith, is)))) in
      omega (arith, here, rest, none)
  total_at (x ∷ xs) (y ∷ ys) zero same =
      let rest : total f ys ≡ total f xs = total_same xs ys (λ i. ap f (same (suc i) (λ is. omega (arith, is)))) in
      omega (arith, rest)
  total_at (x ∷ xs) (y ∷ ys) (suc place) same =
      let here : f y ≡ f x = ap f (same 0 (λ is. omega (arith, is))) in
      let rest : total f ys + f (get_or xs place d) ≡ total f xs + f (get_or ys place d) =
      total_at xs ys place (λ i ne. same (suc i) (λ is. ne (omega (arith, is)))) in
      omega (arith, here, rest)

-- lists of the elements of a list, one after another
pub times-flat-map : {A : Type 0} (x : ℕ) (g : A → List ℕ) (them : List A) → times x (flat (map g them)) ≡ total (λ a. times x (g a)) them
times-flat-map x g [] = refl
times-flat-map x g (a ∷ them) = let rest = times-flat-map x g them in let here = times-append x (g a) (flat (map g them)) in omega (arith, here, rest)

pub flat-map_same : {A : Type 0} (g : A → List ℕ) (d : A) (old new : List A) → length new ≡ length old
    → ((i : ℕ) → g (get_or new i d) ≡ g (get_or old i d)) → flat (map g new) ≡ flat (map g old)
flat-map_same g d [] [] each same = refl
flat-map_same g d [] (y ∷ ys) each same = absurd (omega (arith, each))
flat-map_same g d (x ∷ xs) [] each same = absurd (omega (arith, each))
flat-map_same g d (x ∷ xs) (y ∷ ys) each same =
    let rest : flat (map g ys) ≡ flat (map g xs) = flat-map_same g d xs ys (omega (arith, each)) (λ i. same (suc i)) in
    λ i. same 0 i ++ rest i
