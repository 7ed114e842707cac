-- A node as the carrier of its own kinds.
use Rattle.std.proofs.Common.{◌≡◌, ◌⊎◌, inl, inr, ℕ, ◌<◌, ◌≤◌, ◌+◌, ◌/◌, ◌^◌, bit_and, List, length, get_or, set, map, sym, ◌∙◌, subst, arith}
use Rattle.std.proofs.lemmas.Bool.{cases_eq, cases_lt}
use Rattle.std.proofs.lemmas.List.{get_or-set_same, get_or-set_other, length-set}
use Rattle.std.proofs.lemmas.Nat.{bit_set_by_shift}
use Rattle.std.specs.Prelude.{IsBitSet}
use Rattle.effect_flow.specs.Carriers.{IsFirst, first_at, see_node}
use Rattle.effect_flow.proofs.LeastOnes.{first_seen, no_some, see_none, seen_number, upto_seen}
use Rattle.effect_flow.specs.declared.kinds.TheConstants.{KINDS}

-- the node stands at the first kinds that are set, and no node else
pub record AreSetBelow (node kinds kind : ℕ) (firsts : List ℕ) : Type 0 where
  pub each : length firsts ≡ KINDS
  pub set : (k : ℕ) → k < kind → IsBitSet kinds k → get_or firsts k 0 ≡ node
  pub unset : (k : ℕ) → k < kind → (IsBitSet kinds k → ⊥) → get_or firsts k 0 ≡ 4294967295
  pub rest : (k : ℕ) → kind ≤ k → k < KINDS → get_or firsts k 0 ≡ 4294967295

pub unset_next : (node kinds kind : ℕ) (firsts : List ℕ) → kind < KINDS → (bit_and (kinds / 2 ^ kind) 1 ≡ 1 → ⊥)
    → AreSetBelow node kinds kind firsts → AreSetBelow node kinds (kind + 1) firsts
unset_next node kinds kind firsts lt not_set are = record {
  each = are.each;
  set = λ k below is.
      elim (cases_lt k kind) [
        | inl before ↦ are.set k before is
        | inr from ↦
            let last : k ≡ kind = omega (arith, from, below) in
            absurd (not_set ((bit_set_by_shift kinds kind).1 (subst (IsBitSet kinds) last is)))
      ];
  unset = λ k below none.
      elim (cases_lt k kind) [
        | inl before ↦ are.unset k before none
        | inr from ↦ are.rest k from (omega (arith, below, lt))
      ];
  rest = λ k from low. are.rest k (omega (arith, from)) low;
}

pub set_next : (node kinds kind : ℕ) (firsts : List ℕ) → kind < KINDS → bit_and (kinds / 2 ^ kind) 1 ≡ 1
    → AreSetBelow node kinds kind firsts → AreSetBelow node kinds (kind + 1) (set firsts kind node)
set_next node kinds kind firsts lt is_set are =
    let within : kind < length firsts = omega (arith, lt, are.each) in
    let here : get_or (set firsts kind node) kind 0 ≡ node = get_or-set_same firsts kind node 0 within in
    let there : (k : ℕ) → (k ≡ kind → ⊥) → get_or (set firsts kind node) k 0 ≡ get_or firsts k 0 =
    λ k other. get_or-set_other firsts kind k node 0 other in
    record {
      each = length-set firsts kind node ∙ are.each;
      set = λ k below is.
          elim (cases_eq k kind) [
            | inl last ↦ subst (λ n. get_or (set firsts kind node) n 0 ≡ node) (sym last) here
            | inr other ↦ there k other ∙ are.set k (omega (arith, below, other)) is
          ];
      unset = λ k below none.
          elim (cases_eq k kind) [
            | inl last ↦ absurd (none (subst (IsBitSet kinds) (sym last) ((bit_set_by_shift kinds kind).0 is_set)))
            | inr other ↦ there k other ∙ are.unset k (omega (arith, below, other)) none
          ];
      rest = λ k from low. there k (λ same. omega (arith, same, from)) ∙ are.rest k (omega (arith, from)) low;
    }

set_or_not : (kinds kind : ℕ) → IsBitSet kinds kind ⊎ (IsBitSet kinds kind → ⊥)
set_or_not kinds kind = elim (cases_eq (bit_and kinds (2 ^ kind)) 0) [ inl none ↦ inr (λ is. is none) | inr some ↦ inl some ]

pub one_node : (node kinds : ℕ) (firsts : List ℕ) (end : ℕ) → node < 4294967295 → KINDS ≤ end → AreSetBelow node kinds end firsts
    → (kind : ℕ) → kind < KINDS → IsFirst (λ q. (q ≡ node) × IsBitSet kinds kind) (first_at (map see_node firsts) kind)
one_node node kinds firsts end low last are kind lt =
    let seen : first_at (map see_node firsts) kind ≡ see_node (get_or firsts kind 0) = first_seen firsts kind (omega (arith, lt, are.each)) in
    rw seen
    (record {
      is = λ q at.
          elim (set_or_not kinds kind) [
            | inl is ↦ (sym (seen_number (get_or firsts kind 0) q at).0 ∙ are.set kind (omega (arith, lt, last)) is, is)
            | inr none ↦ absurd (no_some q (sym (see_none (get_or firsts kind 0) (are.unset kind (omega (arith, lt, last)) none)) ∙ at))
          ];
      least = λ q holds.
          let same : get_or firsts kind 0 ≡ node = are.set kind (omega (arith, lt, last)) holds.1 in
          let is = holds.0 in
          upto_seen (get_or firsts kind 0) q (omega (arith, same, is)) (omega (arith, is, low));
    })
