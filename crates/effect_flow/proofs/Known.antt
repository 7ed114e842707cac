-- Each group has carriers, and they are one.
use Rattle.std.proofs.Common.{◌≡◌, ◌⊎◌, inl, inr, ℕ, zero, suc, ◌<◌, bit_and, ◌^◌, List, [], length, map, get_or, Option, Some, None, refl, ap, subst, sym, ◌∙◌, arith}
use Rattle.std.specs.List.{range_with_len}
use Rattle.std.proofs.lemmas.Bool.{cases_eq, cases_lt}
use Rattle.std.proofs.lemmas.List.FromFn.{get_or-map-range_with_len, length-map-range_with_len}
use Rattle.graph_law.specs.Classes.{group_at}
use Rattle.graph_law.specs.Reach.{IsReached}
use Rattle.effect_flow.specs.Carriers.{AreFlows, HasKind, IsCarried, IsCarrier, IsFirst, IsFlow}
use Rattle.effect_flow.proofs.LeastOnes.{first_none, first_same, upto_some}
use Rattle.effect_flow.specs.declared.kinds.TheConstants.{KINDS}

-- there is one least node

one_of : (P : ℕ → Type 0) (a b : Option ℕ) → IsFirst P a → IsFirst P b → (q : ℕ) → a ≡ Some q → b ≡ Some q
one_of P a b is also q at =
    let below = upto_some b q (also.least q (is.is q at)) in
    let above = upto_some a below.0 (is.least below.0 (also.is below.0 below.1.0)) in
    let same : Some q ≡ Some above.0 = sym at ∙ above.1.0 in
    let number : q ≡ above.0 = cc in
    below.1.0 ∙ ap (λ n. Some n) (omega (arith, number, below.1.1, above.1.1))

pub one_first : (P : ℕ → Type 0) (a b : Option ℕ) → IsFirst P a → IsFirst P b → a ≡ b
one_first P None None is also = refl
one_first P None (Some q) is also = one_of P (Some q) None also is q refl
one_first P (Some q) b is also = sym (one_of P (Some q) b is also q refl)

pub one_carrier : (calls : ℕ → ℕ → Type 0) (own others : List ℕ) (kind : ℕ) (group : List ℕ) (a b : Option ℕ)
    → ((q : ℕ) → HasKind own kind q → HasKind others kind q) → ((q : ℕ) → HasKind others kind q → HasKind own kind q)
    → IsCarrier calls own kind group a → IsCarrier calls others kind group b → a ≡ b
one_carrier calls own others kind group a b to from is also =
    one_first (IsCarried calls own kind group) a b is
    (first_same (IsCarried calls others kind group) (IsCarried calls own kind group) b
    (λ q carried. record { reached = carried.reached; has = from q carried.has })
    (λ q carried. record { reached = carried.reached; has = to q carried.has }) also)

-- and there is one, where it is known for each node

first_step : (P : ℕ → Type 0) (n : ℕ) (before : Option ℕ) → IsFirst (λ q. (q < n) × P q) before → P n ⊎ (P n → ⊥)
    → (first : Option ℕ) × IsFirst (λ q. (q < suc n) × P q) first
first_step P n (Some m) is known = (
  Some m,
  record {
    is = λ q at. let old = is.is q at in (omega (arith, old.0), old.1);
    least = λ q holds.
        elim (cases_lt q n) [
          | inl lt ↦ is.least q (lt, holds.1)
          | inr from ↦ let old = is.is m refl in omega (arith, old.0, from)
        ];
  },
)
first_step P n None is (inl holds) = (
  Some n,
  record {
    is = λ q at. let same : n ≡ q = cc in subst (λ k. (k < suc n) × P k) same (omega arith, holds);
    least = λ q other.
        elim (cases_lt q n) [
          | inl lt ↦ absurd (is.least q (lt, other.1))
          | inr from ↦ omega (arith, from)
        ];
  },
)
first_step P n None is (inr fails) = (
  None,
  first_none (λ q. (q < suc n) × P q) None refl
      (λ q holds.
      elim (cases_eq q n) [
        | inl same ↦ fails (subst P same holds.1)
        | inr other ↦ let lt = holds.0 in is.least q (omega (arith, lt, other), holds.1)
      ]),
)

first_below : (P : ℕ → Type 0) → ((q : ℕ) → P q ⊎ (P q → ⊥)) → (n : ℕ) → (first : Option ℕ) × IsFirst (λ q. (q < n) × P q) first
first_below P known zero = (None, first_none (λ q. (q < zero) × P q) None refl (λ q holds. let lt = holds.0 in omega (arith, lt)))
first_below P known (suc n) = let before = first_below P known n in first_step P n before.0 before.1 (known n)

set_or_not : (own : List ℕ) (kind q : ℕ) → HasKind own kind q ⊎ (HasKind own kind q → ⊥)
set_or_not own kind q = elim (cases_eq (bit_and (get_or own q 0) (2 ^ kind)) 0) [ inl none ↦ inr (λ is. is none) | inr some ↦ inl some ]

module _ (calls : ℕ → ℕ → Type 0) (own : List ℕ) (count : ℕ) where
  -- it is known what the group reaches, which are nodes
  pub record IsKnown (group : List ℕ) : Type 0 where
    pub known : (q : ℕ) → IsReached calls group q ⊎ (IsReached calls group q → ⊥)
    pub below : (q : ℕ) → IsReached calls group q → q < count

  some_carrier : (group : List ℕ) (kind : ℕ) → IsKnown group → (first : Option ℕ) × IsCarrier calls own kind group first
  some_carrier group kind is =
      let P : ℕ → Type 0 = IsCarried calls own kind group in
      let known : (q : ℕ) → P q ⊎ (P q → ⊥) =
      λ q.
      elim (is.known q) [
        | inr none ↦ inr (λ carried. none carried.reached)
        | inl reached ↦
            elim (set_or_not own kind q) [
              | inl has ↦ inl (record { reached = reached; has = has })
              | inr lacks ↦ inr (λ carried. lacks carried.has)
            ]
      ] in
      let found = first_below P known count in
      (found.0, first_same (λ q. (q < count) × P q) P found.0 (λ q holds. holds.1) (λ q carried. (is.below q carried.reached, carried)) found.1)

  some_flow : (group : List ℕ) → IsKnown group → (flow : List (Option ℕ)) × IsFlow calls own group flow
  some_flow group is =
      let at : ℕ → Option ℕ = λ kind. (some_carrier group kind is).0 in (
        map at (range_with_len 0 KINDS),
        λ kind low.
            subst (IsCarrier calls own kind group) (sym (get_or-map-range_with_len at 0 KINDS kind kind None low (omega arith))) (some_carrier group kind is).1,
      )

  -- groups have flows
  pub some_flows : (groups : List (List ℕ)) → ((place : ℕ) → IsKnown (group_at groups place)) → (flows : List (List (Option ℕ))) × AreFlows calls own groups flows
  some_flows groups are =
      let at : ℕ → List (Option ℕ) = λ place. (some_flow (group_at groups place) (are place)).0 in (
        map at (range_with_len 0 (length groups)),
        record {
          each = length-map-range_with_len at 0 (length groups);
          carriers = λ place lt.
              subst (IsFlow calls own (group_at groups place)) (sym (get_or-map-range_with_len at 0 (length groups) place place [] lt (omega arith)))
              (some_flow (group_at groups place) (are place)).1;
        },
      )
