-- There is always a place for one more search: one node of each search is another node.
use Rattle.std.proofs.Common.{◌≡◌, ◌⊎◌, inl, inr, ℕ, zero, suc, ◌<◌, List, [], ◌∷◌, length, map, get_or, Option, None, Some, refl, ap, ◌∙◌, sym, subst, arith}
use Rattle.std.proofs.lemmas.List.{get_or-map, length-map}
use Rattle.std.specs.Prelude.{All, Contains}
use Rattle.list_laws.proofs.OneOrder.{nothing_in}
use Rattle.graph_law.specs.CallOrder.{AreApart}
use Rattle.search_stack.specs.Stack.{Stack, size}
use Rattle.search_stack.specs.Search.{SearchValue, IsOn}
use Rattle.blocked_table.specs.Blocked.{BlockedValue, HasRoom, IsTable}
use Rattle.blocked_table.specs.Kept.{kept_at, Holds}
use Rattle.group_release.specs.Outline.{nodes_of, nodes_on}
use Rattle.group_release.proofs.FewGroups.{few_groups}
use Rattle.group_release.proofs.Nodes.{on_listed}

some_on : (s : Stack) → 0 < size s → 0 < length (nodes_on s)
unfolding size
some_on s some = omega (arith, some, length-map s.entries (λ entry. entry.node))

-- all places are full
abbrev IsFull : List (Option SearchValue) → Type 0
IsFull kept = (i : ℕ) → i < length kept → (search : SearchValue) × (kept_at kept i ≡ Some search)

full_more : (search : SearchValue) (kept : List (Option SearchValue)) → IsFull kept → IsFull (Some search ∷ kept)
full_more search kept full zero lt = (search, refl)
full_more search kept full (suc i) lt = full i (omega (arith, lt))

vacant_or_full : (kept : List (Option SearchValue)) → ((place : ℕ) × (place < length kept) × (kept_at kept place ≡ None)) ⊎ IsFull kept
vacant_or_full [] = inr (λ i lt. absurd (omega (arith, lt)))
vacant_or_full (None ∷ kept) = inl (0, omega arith, refl)
vacant_or_full (Some search ∷ kept) =
    elim (vacant_or_full kept) as (λ _. ((place : ℕ) × (place < suc (length kept)) × (kept_at (Some search ∷ kept) place ≡ None)) ⊎ IsFull (Some search ∷ kept)) [
      | inl (place, lt, none) ↦ inl (suc place, omega (arith, lt), none)
      | inr full ↦ inr (full_more search kept full)
    ]

held_by : (kept : List (Option SearchValue)) (i v : ℕ) (o : Option SearchValue) → kept_at kept i ≡ o → Contains (nodes_of o) v → Holds kept i v
held_by kept i v None at has = absurd (nothing_in v has)
held_by kept i v (Some search) at has = record { search = search; at = at; on = on_listed search.stack v has }

module _ (value : BlockedValue) (table : IsTable value) (s : Stack) (some : 0 < size s) (below : (v : ℕ) → IsOn s v → v < value.count)
    (apart : (place v : ℕ) → Holds value.kept place v → IsOn s v → ⊥) (full : IsFull value.kept) where
  abbrev groups : List (List ℕ)
  groups = nodes_on s ∷ map nodes_of value.kept

  long : length groups ≡ suc (length value.kept)
  long = ap suc (length-map value.kept nodes_of)

  -- a node of a group is on the search, or on the kept one before
  held : (i v : ℕ) → i < length groups → Contains (get_or groups i []) v → ((i ≡ 0) × IsOn s v) ⊎ ((k : ℕ) × (i ≡ suc k) × Holds value.kept k v)
  held zero v lt has = inl (refl, on_listed s v has)
  held (suc k) v lt has =
      let within : k < length value.kept = omega (arith, lt, long) in
      inr (
        k,
        refl,
        held_by value.kept k v (kept_at value.kept k) refl (subst (λ each. Contains each v) (get_or-map nodes_of value.kept k None [] within) has),
      )

  some_nodes : All (λ group. 0 < length group) groups
  some_nodes zero d lt = some_on s some
  some_nodes (suc k) d lt =
      let within : k < length value.kept = omega (arith, lt, long) in
      let here = full k within in
      let read : get_or (map nodes_of value.kept) k d ≡ nodes_on here.0.stack = get_or-map nodes_of value.kept k None d within ∙ ap nodes_of here.1 in
      subst (λ group. 0 < length group) (sym read) (some_on here.0.stack (table.each k here.0 here.1).some)

  groups_apart : AreApart value.count groups
  groups_apart = record {
    below = λ i p lt member.
        elim (held i p lt member) as (λ _. p < value.count)
        [ inl (first, on) ↦ below p on | inr (k, is, holds) ↦ table.below k p holds ];
    once = λ i j p lt inside here there.
        elim (held i p lt here) as (λ _. i ≡ j) [
          | inl (first, on) ↦
              elim (held j p inside there) as (λ _. i ≡ j)
              [ inl (also, too) ↦ first ∙ sym also | inr (k, is, holds) ↦ absurd (apart k p holds on) ]
          | inr (k, is, holds) ↦
              elim (held j p inside there) as (λ _. i ≡ j) [
                | inl (also, too) ↦ absurd (apart k p holds too)
                | inr (m, at, hold) ↦ is ∙ ap suc (table.apart k m p holds hold) ∙ sym at
              ]
        ];
  }

  few : length value.kept < value.count
  few = omega (arith, few_groups value.count groups some_nodes groups_apart, long)

pub always_room : (value : BlockedValue) → IsTable value → value.most ≡ value.count → (s : Stack) → 0 < size s
    → ((v : ℕ) → IsOn s v → v < value.count) → ((place v : ℕ) → Holds value.kept place v → IsOn s v → ⊥) → HasRoom value
always_room value table most s some below apart =
    elim (vacant_or_full value.kept) as (λ _. HasRoom value) [
      | inl vacant ↦ inr vacant
      | inr full ↦ inl (omega (arith, few value table s some below apart full, most))
    ]
