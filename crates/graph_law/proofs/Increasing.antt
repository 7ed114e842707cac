-- Lists of numbers that rise.
use Rattle.std.proofs.Common.{◌≡◌, inl, inr, ℕ, zero, suc, ◌<◌, ◌≤◌, ◌+◌, ◌-◌, List, [], ◌∷◌, ◌++◌, length, get_or, sym, arith}
use Rattle.std.proofs.Math.Numerals.{suc-eq-add-one}
use Rattle.std.proofs.lemmas.Bool.{cases_eq, cases_order}
use Rattle.std.proofs.lemmas.List.{get_or_append_left, get_or_push, length_push}
use Rattle.std.specs.Prelude.{All}
use Rattle.std.specs.List.Sorted.{IsStrictlyIncreasing}

-- a number above all of a list goes to its end
pub increasing_push : (xs : List ℕ) (x : ℕ) → IsStrictlyIncreasing xs → All (λ y. y < x) xs → IsStrictlyIncreasing (xs ++ x ∷ [])
increasing_push xs x up below k lt =
    let long : length (xs ++ x ∷ []) ≡ length xs + 1 = length_push xs x in
    let within : k < length xs = omega (arith, long, lt) in
    let here : get_or (xs ++ x ∷ []) k 0 ≡ get_or xs k 0 = get_or_append_left xs (x ∷ []) 0 k within in
    elim (cases_eq (k + 1) (length xs)) [
      | inl last ↦
          let next : get_or (xs ++ x ∷ []) (k + 1) 0 ≡ x = get_or_push xs x 0 (k + 1) (sym last) in
          omega (arith, here, next, below k 0 within)
      | inr ne ↦
          let inside : k + 1 < length xs = omega (arith, within, ne) in
          let next : get_or (xs ++ x ∷ []) (k + 1) 0 ≡ get_or xs (k + 1) 0 = get_or_append_left xs (x ∷ []) 0 (k + 1) inside in
          omega (arith, here, next, up k inside)
    ]

-- a later number is greater
pub increasing_far : (xs : List ℕ) → IsStrictlyIncreasing xs → (i j : ℕ) → i < j → j < length xs → get_or xs i 0 < get_or xs j 0
increasing_far xs up i zero before lt = absurd (omega (arith, before))
increasing_far xs up i (suc j) before lt =
    let step : get_or xs j 0 < get_or xs (j + 1) 0 = up j (omega (arith, lt)) in
    rw (suc-eq-add-one j)
    (elim (cases_eq i j) as (λ _. get_or xs i 0 < get_or xs (j + 1) 0)
    [ inl is ↦ rw is step | inr ne ↦ omega (arith, step, increasing_far xs up i j (omega (arith, before, ne)) (omega (arith, lt))) ])

-- the first is the least
pub increasing_first : (xs : List ℕ) → IsStrictlyIncreasing xs → (k : ℕ) → k < length xs → get_or xs 0 0 ≤ get_or xs k 0
increasing_first xs up k lt =
    elim (cases_eq k 0)
    [ inl is ↦ rw is (omega arith) | inr ne ↦ omega (arith, increasing_far xs up 0 k (omega (arith, ne)) lt) ]

-- equal numbers stand at one place
pub increasing_same : (xs : List ℕ) → IsStrictlyIncreasing xs → (i j : ℕ) → i < length xs → j < length xs → get_or xs i 0 ≡ get_or xs j 0 → i ≡ j
increasing_same xs up i j within inside same =
    elim (cases_order i j) [
      | inl is ↦ is
      | inr apart ↦
          elim apart [
            | inl before ↦ absurd (omega (arith, same, increasing_far xs up i j before inside))
            | inr after ↦ absurd (omega (arith, same, increasing_far xs up j i after within))
          ]
    ]

-- a number is at least its place
pub increasing_place : (xs : List ℕ) → IsStrictlyIncreasing xs → (k : ℕ) → k < length xs → k ≤ get_or xs k 0
increasing_place xs up zero lt = omega arith
increasing_place xs up (suc k) lt =
    let step : get_or xs k 0 < get_or xs (k + 1) 0 = up k (omega (arith, lt)) in
    let rest : k ≤ get_or xs k 0 = increasing_place xs up k (omega (arith, lt)) in
    rw (suc-eq-add-one k) (omega (arith, step, rest))

-- there are at most as many as there are numbers below the bound
pub increasing_count : (xs : List ℕ) (n : ℕ) → IsStrictlyIncreasing xs → All (λ x. x < n) xs → length xs ≤ n
increasing_count xs n up below =
    elim (cases_eq (length xs) 0) [
      | inl none ↦ omega (arith, none)
      | inr some ↦
          let last : length xs - 1 < length xs = omega (arith, some) in
          omega (arith, some, increasing_place xs up (length xs - 1) last, below (length xs - 1) 0 last)
    ]
