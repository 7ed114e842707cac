-- Laws of the order of lists of nodes.
use Rattle.std.proofs.Common.{◌≡◌, ◌⊎◌, inl, inr, ℕ, suc, ◌<◌, ◌+◌, List, [], ◌∷◌, ◌++◌, length, refl, sym, ap, ◌∙◌, arith, subst}
use Rattle.std.proofs.lemmas.List.{length_push}
use Rattle.loop_paths.specs.Lists.{ComesFirst, IsLess}
use Rattle.loop_paths.specs.Grown.{IsAtMost}

first_irrefl : (xs : List ℕ) → ComesFirst xs xs → ⊥
first_irrefl [] first = first
first_irrefl (x ∷ xs) first = elim first [ inl lt ↦ omega (arith, lt) | inr same ↦ first_irrefl xs same.1 ]

first_trans : (xs ys zs : List ℕ) → ComesFirst xs ys → ComesFirst ys zs → ComesFirst xs zs
first_trans [] ys zs first second = absurd first
first_trans (x ∷ xs) [] zs first second = absurd first
first_trans (x ∷ xs) (y ∷ ys) [] first second = absurd second
first_trans (x ∷ xs) (y ∷ ys) (z ∷ zs) first second =
    elim first as (λ _. (x < z) ⊎ ((x ≡ z) × ComesFirst xs zs)) [
      | inl lt ↦ elim second as (λ _. (x < z) ⊎ ((x ≡ z) × ComesFirst xs zs))
          [ inl less ↦ inl (omega (arith, lt, less)) | inr also ↦ inl (omega (arith, lt, also.0)) ]
      | inr same ↦ elim second as (λ _. (x < z) ⊎ ((x ≡ z) × ComesFirst xs zs))
          [ inl less ↦ inl (omega (arith, same.0, less)) | inr also ↦ inr (same.0 ∙ also.0, first_trans xs ys zs same.1 also.1) ]
    ]

first_more : (xs ys more others : List ℕ) → ComesFirst xs ys → ComesFirst (xs ++ more) (ys ++ others)
first_more [] ys more others first = absurd first
first_more (x ∷ xs) [] more others first = absurd first
first_more (x ∷ xs) (y ∷ ys) more others first =
    elim first as (λ _. (x < y) ⊎ ((x ≡ y) × ComesFirst (xs ++ more) (ys ++ others)))
    [ inl lt ↦ inl lt | inr same ↦ inr (same.0, first_more xs ys more others same.1) ]

first_last : (xs : List ℕ) (a b : ℕ) → a < b → ComesFirst (xs ++ a ∷ []) (xs ++ b ∷ [])
first_last [] a b lt = inl lt
first_last (x ∷ xs) a b lt = inr (refl, first_last xs a b lt)

first_back : (xs ys : List ℕ) (q : ℕ) → length xs ≡ length ys → ComesFirst (xs ++ q ∷ []) (ys ++ q ∷ []) → ComesFirst xs ys
first_back [] [] q same first = elim first [ inl lt ↦ omega (arith, lt) | inr none ↦ none.1 ]
first_back [] (y ∷ ys) q same first = absurd (let none : 0 ≡ suc (length ys) = same in omega (arith, none))
first_back (x ∷ xs) [] q same first = absurd (let none : suc (length xs) ≡ 0 = same in omega (arith, none))
first_back (x ∷ xs) (y ∷ ys) q same first =
    let long : suc (length xs) ≡ suc (length ys) = same in
    elim first as (λ _. (x < y) ⊎ ((x ≡ y) × ComesFirst xs ys))
    [ inl lt ↦ inl lt | inr also ↦ inr (also.0, first_back xs ys q (omega (arith, long)) also.1) ]

pub less_irrefl : (xs : List ℕ) → IsLess xs xs → ⊥
less_irrefl xs less = elim less [ inl lt ↦ omega (arith, lt) | inr same ↦ first_irrefl xs same.1 ]

pub less_trans : (xs ys zs : List ℕ) → IsLess xs ys → IsLess ys zs → IsLess xs zs
less_trans xs ys zs first second =
    elim first as (λ _. IsLess xs zs) [
      | inl lt ↦ elim second as (λ _. IsLess xs zs)
          [ inl less ↦ inl (omega (arith, lt, less)) | inr also ↦ inl (omega (arith, lt, also.0)) ]
      | inr same ↦ elim second as (λ _. IsLess xs zs)
          [ inl less ↦ inl (omega (arith, same.0, less)) | inr also ↦ inr (same.0 ∙ also.0, first_trans xs ys zs same.1 also.1) ]
    ]

-- with any node behind each
pub less_more : (xs ys : List ℕ) (a b : ℕ) → IsLess xs ys → IsLess (xs ++ a ∷ []) (ys ++ b ∷ [])
less_more xs ys a b less =
    let left : length (xs ++ a ∷ []) ≡ length xs + 1 = length_push xs a in
    let right : length (ys ++ b ∷ []) ≡ length ys + 1 = length_push ys b in
    elim less as (λ _. IsLess (xs ++ a ∷ []) (ys ++ b ∷ [])) [
      | inl lt ↦ inl (omega (arith, lt, left, right))
      | inr same ↦ inr (omega (arith, same.0, left, right), first_more xs ys (a ∷ []) (b ∷ []) same.1)
    ]

pub less_last : (xs : List ℕ) (a b : ℕ) → a < b → IsLess (xs ++ a ∷ []) (xs ++ b ∷ [])
less_last xs a b lt = inr (length_push xs a ∙ sym (length_push xs b), first_last xs a b lt)

-- without the same node behind each
pub less_back : (xs ys : List ℕ) (q : ℕ) → IsLess (xs ++ q ∷ []) (ys ++ q ∷ []) → IsLess xs ys
less_back xs ys q less =
    let left : length (xs ++ q ∷ []) ≡ length xs + 1 = length_push xs q in
    let right : length (ys ++ q ∷ []) ≡ length ys + 1 = length_push ys q in
    elim less as (λ _. IsLess xs ys) [
      | inl lt ↦ inl (omega (arith, lt, left, right))
      | inr same ↦
          let long : length xs ≡ length ys = let each = same.0 in omega (arith, each, left, right) in
          inr (long, first_back xs ys q long same.1)
    ]

pub most_self : (xs : List ℕ) → IsAtMost xs xs
most_self xs = inr refl

pub most_trans : (xs ys zs : List ℕ) → IsAtMost xs ys → IsAtMost ys zs → IsAtMost xs zs
most_trans xs ys zs first second =
    elim first as (λ _. IsAtMost xs zs) [
      | inl less ↦ elim second as (λ _. IsAtMost xs zs)
          [ inl also ↦ inl (less_trans xs ys zs less also) | inr same ↦ inl (subst (IsLess xs) same less) ]
      | inr is ↦ subst (λ (each : List ℕ). IsAtMost each zs) (sym is) second
    ]

pub most_more : (xs ys : List ℕ) (q : ℕ) → IsAtMost xs ys → IsAtMost (xs ++ q ∷ []) (ys ++ q ∷ [])
most_more xs ys q most =
    elim most as (λ _. IsAtMost (xs ++ q ∷ []) (ys ++ q ∷ []))
    [ inl less ↦ inl (less_more xs ys q q less) | inr is ↦ inr (ap (λ each. each ++ q ∷ []) is) ]

pub most_on : (xs ys : List ℕ) (q : ℕ) → IsAtMost xs ys → IsAtMost xs (ys ++ q ∷ [])
most_on xs ys q most =
    let longer : IsLess ys (ys ++ q ∷ []) = inl (let long = length_push ys q in omega (arith, long)) in
    most_trans xs ys (ys ++ q ∷ []) most (inl longer)

-- what is at most a list is not more
pub most_not : (xs ys : List ℕ) → IsAtMost xs ys → IsLess ys xs → ⊥
most_not xs ys most less =
    elim most [
      | inl before ↦ less_irrefl xs (less_trans xs ys xs before less)
      | inr is ↦ less_irrefl ys (subst (IsLess ys) is less)
    ]
