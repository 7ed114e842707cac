-- What one element of a list of numbers adds to its total, and two; and how often a list has a number.
use Rattle.std.proofs.Common.{◌≡◌, ℕ, zero, suc, ◌<◌, ◌≤◌, ◌+◌, List, [], ◌∷◌, length, get_or, ne_eqb, refl, ap, ◌∙◌, arith}
use Rattle.std.proofs.lemmas.Map.Keys.{IsDistinct-from_apart}
use Rattle.std.specs.List.{IsDistinct as AreDistinct}
use Rattle.std.specs.Prelude.{nat_eq}
use Rattle.list_laws.specs.Counts.{times, total}
use Rattle.list_laws.proofs.Counting.{times_here}

-- one element of a list, and two, add up to no more than all
pub one_of : {A : Type 0} (f : A → ℕ) (d : A) (xs : List A) (i : ℕ) → i < length xs → f (get_or xs i d) ≤ total f xs
one_of f d [] i lt = absurd (omega (arith, lt))
one_of f d (x ∷ xs) zero lt = omega arith
one_of f d (x ∷ xs) (suc i) lt = let rest = one_of f d xs i (omega (arith, lt)) in omega (arith, rest)

pub two_of : {A : Type 0} (f : A → ℕ) (d : A) (xs : List A) (i j : ℕ) → i < length xs → j < length xs → (i ≡ j → ⊥)
    → f (get_or xs i d) + f (get_or xs j d) ≤ total f xs
two_of f d [] i j lt within other = absurd (omega (arith, lt))
two_of f d (x ∷ xs) zero zero lt within other = absurd (other refl)
two_of f d (x ∷ xs) zero (suc j) lt within other = let rest = one_of f d xs j (omega (arith, within)) in omega (arith, rest)
two_of f d (x ∷ xs) (suc i) zero lt within other = let rest = one_of f d xs i (omega (arith, lt)) in omega (arith, rest)
two_of f d (x ∷ xs) (suc i) (suc j) lt within other =
    let rest = two_of f d xs i j (omega (arith, lt)) (omega (arith, within)) (λ is. other (ap suc is)) in omega (arith, rest)

-- nodes that are counted once are distinct
listed_total : (x : ℕ) (xs : List ℕ) → times x xs ≡ total (λ u. times x (u ∷ [])) xs
listed_total x [] = refl
listed_total x (y ∷ ys) = let rest = listed_total x ys in omega (arith, rest)

pub distinct_listed : (xs : List ℕ) → ((v : ℕ) → times v xs ≤ 1) → AreDistinct nat_eq xs
distinct_listed xs once =
    IsDistinct-from_apart nat_eq xs
    (λ i j d below lt.
    ne_eqb (get_or xs i d) (get_or xs j d)
    (λ is.
    let v : ℕ = get_or xs j d in
    let f : ℕ → ℕ = λ u. times v (u ∷ []) in
    let two : f (get_or xs i d) + f (get_or xs j d) ≤ total f xs =
    two_of f d xs i j (omega (arith, below, lt)) lt (λ same. omega (arith, same, below)) in
    let first : f (get_or xs i d) ≡ 1 = ap (λ u. times v (u ∷ [])) is ∙ times_here v in
    let second : f (get_or xs j d) ≡ 1 = times_here v in
    omega (arith, two, first, second, once v, listed_total v xs)))
