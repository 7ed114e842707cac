-- How the table of places grows.
use Rattle.std.proofs.Common.{◌≡◌, inl, inr, ℕ, ◌<◌, List, [], ◌∷◌, ◌++◌, length, get_or, subst, sym, refl, ◌∙◌, arith}
use Rattle.std.proofs.lemmas.Bool.{cases_lt}
use Rattle.std.proofs.lemmas.List.{get_or_append_left, get_or_push, length_push}
use Rattle.std.proofs.lemmas.List.Elements.{Contains-get_or}
use Rattle.std.specs.Prelude.{All, Contains}
use Rattle.graph_law.specs.Classes.{group_at, HasMember}
use Rattle.graph_law.specs.CallOrder.{AreApart, AreGroupPlaces, AreZeroElsewhere}
use Rattle.graph_law.specs.Stamp.{IsStamped}

-- one group more is stamped
pub places_push : (count : ℕ) (groups : List (List ℕ)) (group old new : List ℕ) (place : ℕ)
    → place ≡ length groups
    → ((i p : ℕ) → i < length groups → Contains (group_at groups i) p → Contains group p → ⊥)
    → AreGroupPlaces count groups old → IsStamped group place old new → AreGroupPlaces count (groups ++ group ∷ []) new
places_push count groups group old new place last apart are is = record {
  each = is.each ∙ are.each;
  at = λ i p lt member.
      let P : List ℕ → Type 0 = λ each. Contains each p in
      elim (cases_lt i (length groups)) [
        | inl before ↦
            let inside : Contains (group_at groups i) p = subst P (get_or_append_left groups (group ∷ []) [] i before) member in
            elim (is.kept p 0) [ inl here ↦ absurd (apart i p before inside here) | inr same ↦ same ∙ are.at i p before inside ]
        | inr from ↦
            let here : i ≡ length groups = omega (arith, from, lt, length_push groups group) in
            is.stamped p 0 (subst P (get_or_push groups group [] i (sym here)) member) ∙ last ∙ sym here
      ];
}

-- and what is in none of them keeps the place 0
pub others_push : (groups : List (List ℕ)) (group old new : List ℕ) (place : ℕ)
    → AreZeroElsewhere groups old → IsStamped group place old new → AreZeroElsewhere (groups ++ group ∷ []) new
others_push groups group old new place are is p =
    let P : List ℕ → Type 0 = λ each. Contains each p in
    let more : List (List ℕ) = groups ++ group ∷ [] in
    elim (is.kept p 0) [
      | inl here ↦
          let within : length groups < length more = omega (arith, length_push groups group) in
          let member : Contains (group_at more (length groups)) p = subst P (sym (get_or_push groups group [] (length groups) refl)) here in
          inl (record { place = length groups; within = within; member = member })
      | inr same ↦ elim (are p) [
        | inl has ↦
            let within : has.place < length more = omega (arith, has.within, length_push groups group) in
            let member : Contains (group_at more has.place) p =
            subst P (sym (get_or_append_left groups (group ∷ []) [] has.place has.within)) has.member in
            inl (record { place = has.place; within = within; member = member })
        | inr zero_there ↦ inr (same ∙ zero_there)
      ]
    ]

-- the members of a group are nodes
pub all_below_from_apart : (count : ℕ) (groups : List (List ℕ)) (i : ℕ) (group : List ℕ)
    → group ≡ group_at groups i → i < length groups → AreApart count groups → All (λ p. p < count) group
all_below_from_apart count groups i group is lt apart k d within =
    let P : List ℕ → Type 0 = λ each. Contains each (get_or group k d) in
    apart.below i (get_or group k d) lt (subst P is (Contains-get_or group k d within))
