-- How often a node stands in lists.
use Rattle.std.proofs.Common.{inl, inr, ◌≡◌, ◌≢◌, ℕ, zero, suc, ◌<◌, ◌+◌, List, [], ◌∷◌, ◌++◌, length, take, get_or, eqb, cond, refl, ap, ◌∙◌, sym, subst, arith, eq-eqb, ne_eqb, append_assoc}
use Rattle.std.proofs.lemmas.List.Recursion.{is_sum_by}
use Rattle.std.proofs.lemmas.List.Sorted.{sum_by-IsPermutation}
use Rattle.std.proofs.lemmas.Bool.{cases_eq}
use Rattle.std.specs.List.{sum_by}
use Rattle.std.specs.List.Sorted.{IsPermutation}
use Rattle.std.specs.Prelude.{Contains}
use Rattle.list_laws.proofs.OneOrder.{first_or_rest, in_first, in_rest, nothing_in}
use Rattle.list_laws.specs.Counts.{times, flat}

pub times-append : (x : ℕ) (xs ys : List ℕ) → times x (xs ++ ys) ≡ times x xs + times x ys
times-append x [] ys = omega arith
times-append x (y ∷ xs) ys = let rest = times-append x xs ys in omega (arith, rest)

pub flat-append : (xss yss : List (List ℕ)) → flat (xss ++ yss) ≡ flat xss ++ flat yss
flat-append [] yss = refl
flat-append (xs ∷ xss) yss = ap (λ zs. xs ++ zs) (flat-append xss yss) ∙ sym (append_assoc xs (flat xss) (flat yss))

pub times-flat-append : (x : ℕ) (xss yss : List (List ℕ)) → times x (flat (xss ++ yss)) ≡ times x (flat xss) + times x (flat yss)
times-flat-append x xss yss = ap (times x) (flat-append xss yss) ∙ times-append x (flat xss) (flat yss)

pub times-permutation : (x : ℕ) (xs ys : List ℕ) → IsPermutation xs ys → times x xs ≡ times x ys
times-permutation x xs ys same =
    let f : ℕ → ℕ = λ y. cond (eqb y x) 1 0 in
    let sums : (zs : List ℕ) → times x zs ≡ sum_by f zs = is_sum_by (times x) f refl (λ y zs. refl) in
    sums xs ∙ sym (sum_by-IsPermutation f xs ys same) ∙ sym (sums ys)

-- the node itself, and another
pub times_here : (x : ℕ) → times x (x ∷ []) ≡ 1
times_here x = let one : ℕ = 1 in let same : cond (eqb x x) one 0 ≡ one = ap (λ b. cond b one 0) (eq-eqb x x refl) in omega (arith, same)

pub times_other : (x y : ℕ) → y ≢ x → times x (y ∷ []) ≡ 0
times_other x y other = let one : ℕ = 1 in let none : cond (eqb y x) one 0 ≡ 0 = ap (λ b. cond b one 0) (ne_eqb y x other) in omega (arith, none)

-- one more that is taken
pub times_read : (x : ℕ) (xs : List ℕ) (k d : ℕ) → k < length xs → times x (take (suc k) xs) ≡ times x (take k xs) + times x (get_or xs k d ∷ [])
times_read x [] k d lt = absurd (omega (arith, lt))
times_read x (y ∷ xs) zero d lt = omega arith
times_read x (y ∷ xs) (suc k) d lt = let rest = times_read x xs k d (omega (arith, lt)) in omega (arith, rest)

-- a node stands in a list just where it is counted
pub counted : (x : ℕ) (xs : List ℕ) → Contains xs x → 0 < times x xs
counted x [] has = absurd (nothing_in x has)
counted x (y ∷ xs) has =
    elim (first_or_rest y x xs has) as (λ _. 0 < times x (y ∷ xs)) [
      | inl is ↦ let u : ℕ = 1 in let one : cond (eqb y x) u 0 ≡ u = ap (λ b. cond b u 0) (eq-eqb y x is) in omega (arith, one)
      | inr later ↦ let rest = counted x xs later in omega (arith, rest)
    ]

pub standing : (x : ℕ) (xs : List ℕ) → 0 < times x xs → Contains xs x
standing x [] some = absurd (omega (arith, some))
standing x (y ∷ xs) some =
    elim (cases_eq y x) as (λ _. Contains (y ∷ xs) x) [
      | inl is ↦ subst (Contains (y ∷ xs)) is (in_first y xs)
      | inr other ↦
          let u : ℕ = 1 in
          let none : cond (eqb y x) u 0 ≡ 0 = ap (λ b. cond b u 0) (ne_eqb y x other) in
          in_rest y x xs (standing x xs (omega (arith, none, some)))
    ]
