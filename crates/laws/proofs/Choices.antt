-- Finite choices: what each of some numbers has or hasn't, one of them has or none.
use Rattle.std.proofs.Common.{◌≡◌, ◌⊎◌, inl, inr, ℕ, zero, suc, ◌<◌, List, length, get_or, refl, sym, ◌∙◌, subst, arith}
use Rattle.std.proofs.lemmas.Bool.{cases_eq}
use Rattle.std.proofs.lemmas.List.{get_or_default}
use Rattle.std.specs.Prelude.{Contains}

-- it holds, or it doesn't
abbrev pub Decided : Type 0 → Type 0
Decided P = P ⊎ (P → ⊥)

-- a number below the bound has the property
pub record Found (P : ℕ → Type 0) (bound : ℕ) : Type 0 where
  pub at : ℕ
  pub below : at < bound
  pub holds : P at

pub found_or : (P : ℕ → Type 0) → ((k : ℕ) → Decided (P k)) → (bound : ℕ) → Found P bound ⊎ ((k : ℕ) → k < bound → P k → ⊥)
found_or P each zero = inr (λ k lt holds. omega (arith, lt))
found_or P each (suc n) = elim (each n) [
  | inl holds ↦ inl (record { at = n; below = omega arith; holds = holds })
  | inr fails ↦ elim (found_or P each n) [
    | inl found ↦ inl (record { at = found.at; below = (let lt = found.below in omega (arith, lt)); holds = found.holds })
    | inr none ↦ inr (λ k lt holds. elim (cases_eq k n) [
      | inl is ↦ fails (subst P is holds)
      | inr ne ↦ none k (omega (arith, lt, ne)) holds
    ])
  ]
]

-- an element of the list has the property
pub record FoundIn (P : ℕ → Type 0) (xs : List ℕ) : Type 0 where
  pub element : ℕ
  pub is_in : Contains xs element
  pub holds : P element

pub found_in_or : (P : ℕ → Type 0) → ((x : ℕ) → Decided (P x)) → (xs : List ℕ) → FoundIn P xs ⊎ ((x : ℕ) → Contains xs x → P x → ⊥)
found_in_or P each xs = elim (found_or (λ k. P (get_or xs k 0)) (λ k. each (get_or xs k 0)) (length xs)) [
  | inl found ↦ inl (record {
    element = get_or xs found.at 0;
    is_in = (found.at, found.below, get_or_default xs found.at (get_or xs found.at 0) 0 found.below);
    holds = found.holds;
  })
  | inr none ↦ inr (λ x has holds. none has.0 has.1 (subst P (sym (get_or_default xs has.0 0 x has.1 ∙ has.2)) holds))
]

-- a number is in a list or not
pub in_or_out : (xs : List ℕ) (x : ℕ) → Decided (Contains xs x)
in_or_out xs x = elim (found_in_or (λ y. y ≡ x) (λ y. cases_eq y x) xs) [
  | inl found ↦ inl (subst (Contains xs) found.holds found.is_in)
  | inr none ↦ inr (λ has. none x has refl)
]
