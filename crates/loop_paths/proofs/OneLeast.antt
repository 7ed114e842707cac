-- The order of lists is total, so there is one least list.
use Rattle.std.proofs.Common.{◌≡◌, ◌⊎◌, inl, inr, ℕ, suc, ◌<◌, List, [], ◌∷◌, ◌++◌, Option, None, Some, length, get_or, refl, sym, ap, ◌∙◌, arith}
use Rattle.std.proofs.lemmas.Bool.{cases_order}
use Rattle.std.proofs.lemmas.List.{ext_get_or}
use Rattle.graph_law.specs.Classes.{group_at, least_member}
use Rattle.loop_paths.specs.Lists.{ComesFirst, IsLess}
use Rattle.loop_paths.specs.Circuits.{AreCircuits, IsCircuit, IsShortest}
use Rattle.loop_paths.proofs.ListLaws.{less_more}

-- the one comes first, or the other, or they are one list
abbrev AreOrdered : List ℕ → List ℕ → Type 0
AreOrdered xs ys = (xs ≡ ys) ⊎ (IsLess xs ys ⊎ IsLess ys xs)

first_order : (xs ys : List ℕ) → length xs ≡ length ys → (xs ≡ ys) ⊎ (ComesFirst xs ys ⊎ ComesFirst ys xs)
first_order [] [] same = inl refl
first_order [] (y ∷ ys) same = absurd (let none : 0 ≡ suc (length ys) = same in omega (arith, none))
first_order (x ∷ xs) [] same = absurd (let none : suc (length xs) ≡ 0 = same in omega (arith, none))
first_order (x ∷ xs) (y ∷ ys) same =
    let long : suc (length xs) ≡ suc (length ys) = same in
    elim (cases_order x y) as (λ _. (x ∷ xs ≡ y ∷ ys) ⊎ (ComesFirst (x ∷ xs) (y ∷ ys) ⊎ ComesFirst (y ∷ ys) (x ∷ xs))) [
      | inr (inl lt) ↦ inr (inl (inl lt))
      | inr (inr gt) ↦ inr (inr (inl gt))
      | inl is ↦
          elim (first_order xs ys (omega (arith, long))) as (λ _. (x ∷ xs ≡ y ∷ ys) ⊎ (ComesFirst (x ∷ xs) (y ∷ ys) ⊎ ComesFirst (y ∷ ys) (x ∷ xs))) [
            | inl rest ↦ inl (λ i. is i ∷ rest i)
            | inr (inl lt) ↦ inr (inl (inr (is, lt)))
            | inr (inr gt) ↦ inr (inr (inr (sym is, gt)))
          ]
    ]

list_order : (xs ys : List ℕ) → AreOrdered xs ys
list_order xs ys =
    elim (cases_order (length xs) (length ys)) as (λ _. AreOrdered xs ys) [
      | inr (inl lt) ↦ inr (inl (inl lt))
      | inr (inr gt) ↦ inr (inr (inl gt))
      | inl same ↦
          elim (first_order xs ys same) as (λ _. AreOrdered xs ys) [
            | inl is ↦ inl is
            | inr (inl lt) ↦ inr (inl (inr (same, lt)))
            | inr (inr gt) ↦ inr (inr (inr (sym same, gt)))
          ]
    ]

pub one_shortest : (calls : ℕ → ℕ → Type 0) (p q : ℕ) (found other : Option (List ℕ)) → IsShortest calls p q found → IsShortest calls p q other → found ≡ other
one_shortest calls p q None None is also = refl
one_shortest calls p q None (Some ys) is also = absurd (is ys also.is)
one_shortest calls p q (Some xs) None is also = absurd (also xs is.is)
one_shortest calls p q (Some xs) (Some ys) is also =
    elim (list_order xs ys) as (λ _. Some xs ≡ Some ys) [
      | inl same ↦ ap (λ each. Some each) same
      | inr (inl less) ↦ absurd (also.least xs is.is less)
      | inr (inr less) ↦ absurd (is.least ys also.is less)
    ]

pub one_circuit : (calls : ℕ → ℕ → Type 0) (p : ℕ) (found other : Option (List ℕ)) → IsCircuit calls p found → IsCircuit calls p other → found ≡ other
one_circuit calls p None None is also = refl
one_circuit calls p None (Some ys) is also = absurd (is (ys ++ p ∷ []) also.is)
one_circuit calls p (Some xs) None is also = absurd (also (xs ++ p ∷ []) is.is)
one_circuit calls p (Some xs) (Some ys) is also =
    elim (list_order xs ys) as (λ _. Some xs ≡ Some ys) [
      | inl same ↦ ap (λ each. Some each) same
      | inr (inl less) ↦ absurd (also.least (xs ++ p ∷ []) is.is (less_more xs ys p p less))
      | inr (inr less) ↦ absurd (is.least (ys ++ p ∷ []) also.is (less_more ys xs p p less))
    ]

pub one_list_of_circuits : (calls : ℕ → ℕ → Type 0) (groups : List (List ℕ)) (circuits others : List (Option (List ℕ)))
    → AreCircuits calls groups circuits → AreCircuits calls groups others → circuits ≡ others
one_list_of_circuits calls groups circuits others are also =
    ext_get_or None circuits others (are.each ∙ sym also.each)
    (λ i lt.
    let each = are.each in
    let within : i < length groups = omega (arith, lt, each) in
    one_circuit calls (least_member (group_at groups i)) (get_or circuits i None) (get_or others i None) (are.at i within) (also.at i within))
