-- Where nothing can act, nothing is kept and every root is released.
use Rattle.std.proofs.Common.{◌≡◌, inl, inr, ℕ, zero, suc, ◌<◌, ◌+◌, Bool, List, [], ◌∷◌, length, map, get_or, Option, None, Some, refl, ap, sym, subst, arith}
use Rattle.std.proofs.lemmas.List.{get_or_default, get_or-map, length-map}
use Rattle.std.proofs.lemmas.List.Elements.{All-from_get_or}
use Rattle.std.specs.Prelude.{Contains}
use Rattle.list_laws.proofs.OneOrder.{nothing_in}
use Rattle.list_laws.specs.Counts.{times, flat}
use Rattle.list_laws.proofs.Counting.{standing as stands_in}
use Rattle.list_laws.proofs.Standing.{times-flat-map, total_less}
use Rattle.graph_law.specs.Classes.{HasMember}
use Rattle.graph_law.specs.LegalOrder.{IsComplete}
use Rattle.search_stack.specs.Search.{SearchValue}
use Rattle.blocked_table.specs.Kept.{kept_at, IsChain, IsFree, Ends}
use Rattle.blocked_table.proofs.Chain.{IsHeld, none_is_not, place_within}
use Rattle.group_release.specs.Outline.{kept_nodes, listed, nodes_of}
use Rattle.group_release.proofs.KeptCounts.{WantsAt}
use Rattle.group_release.proofs.Nodes.{from_flat, on_listed}
use Rattle.search_machine.specs.Runs.{CanAct, HasMore}
use Rattle.search_machine.specs.State.{State, IsClaimed, IsGoodState, waiting_at}

-- a node that is counted is held
held_by : (kept : List (Option SearchValue)) (place v : ℕ) (o : Option SearchValue) → kept_at kept place ≡ o → Contains (nodes_of o) v → IsHeld kept v
held_by kept place v None at has = absurd (nothing_in v has)
held_by kept place v (Some search) at has =
    record { place = place; holds = record { search = search; at = at; on = on_listed search.stack v has } }

counted_held : (kept : List (Option SearchValue)) (v : ℕ) → 0 < times v (kept_nodes kept) → IsHeld kept v
counted_held kept v some =
    let has : HasMember (map nodes_of kept) v = from_flat (map nodes_of kept) v (stands_in v (kept_nodes kept) some) in
    let within : has.place < length kept = omega (arith, has.within, length-map kept nodes_of) in
    let read : get_or (map nodes_of kept) has.place [] ≡ nodes_of (kept_at kept has.place) = get_or-map nodes_of kept has.place None [] within in
    held_by kept has.place v (kept_at kept has.place) refl (subst (λ each. Contains each v) read has.member)

-- where nothing is at any place, nothing is counted
none_counted : {X : Type 0} (g : Option X → List ℕ) → g None ≡ [] → (xs : List (Option X)) → ((i : ℕ) → get_or xs i None ≡ None)
    → (v : ℕ) → times v (flat (map g xs)) ≡ 0
none_counted g none xs each v =
    let nothing : times v (g None) ≡ 0 = ap (times v) none in
    let less = total_less (λ o. times v (g o)) None nothing [] xs (λ i. let same : times v (g (get_or xs i None)) ≡ times v (g None) = ap (λ o. times v (g o)) (each i) in omega (arith, same)) in
    omega (arith, less, times-flat-map v g xs)

module _ {lists : List (List ℕ)} {roots : List ℕ} {failed : Bool} {s : State} (good : IsGoodState lists roots failed s) (some : 0 < length s.running)
    (free : (place : ℕ) → waiting_at s place ≡ None) (stuck : (place : ℕ) → CanAct s place → ⊥) where
  idle_by : (place : ℕ) (o : Option SearchValue) → kept_at s.running place ≡ o → kept_at s.running place ≡ None
  idle_by place None at = at
  idle_by place (Some search) at =
      absurd
      (stuck place
      (record {
        within = place_within s.running place search at;
        free = free place;
        has = inl (λ none. none_is_not search (kept_at s.running place) none at);
      }))

  idle : (place : ℕ) → kept_at s.running place ≡ None
  idle place = idle_by place (kept_at s.running place) refl

  no_more : HasMore s → ⊥
  no_more more = stuck 0 (record { within = some; free = free 0; has = inr more })

  -- each claimed node that isn't released is held by a kept search
  held : (v : ℕ) → IsClaimed s v → (HasMember s.groups v → ⊥) → IsHeld s.kept v
  held v claimed unreleased =
      let one = good.once v claimed in
      let running : times v (kept_nodes s.running) ≡ 0 = none_counted nodes_of refl s.running idle v in
      let waiting : times v (flat (map listed s.waiting)) ≡ 0 = none_counted listed refl s.waiting free v in
      counted_held s.kept v (kept_or _ (times v (flat s.groups)) (omega (arith, one, running, waiting)) (λ has. unreleased (from_flat s.groups v (stands_in v (flat s.groups) has))))
    where
      kept_or : (m n : ℕ) → m + n ≡ 1 → (0 < n → ⊥) → 0 < m
      kept_or m zero sum none = omega (arith, sum)
      kept_or m (suc n) sum none = absurd (none (omega arith))

  -- following wants never comes to a node that is free
  wanted_held : (w : ℕ) → WantsAt s.kept w → IsHeld s.kept w
  wanted_held w wants =
      held w (good.wants wants.place w wants.search wants.at wants.wants)
      (good.book.wants wants.place w wants.search wants.at wants.wants).unreleased

  never_free : (w : ℕ) (steps : List ℕ) (end : ℕ) → WantsAt s.kept w → IsChain s.kept w steps end → IsFree s.kept end → ⊥
  never_free w [] end wants chain free_end =
      let there : IsHeld s.kept w = wanted_held w wants in
      subst (IsFree s.kept) (sym chain) free_end there.place there.holds
  never_free w (x ∷ xs) end wants chain free_end =
      never_free x xs end
      (record { place = chain.0.place; search = chain.0.holds.search; at = chain.0.holds.at; wants = chain.0.wants })
      chain.1 free_end

  none_kept_by : (place : ℕ) (search : SearchValue) → kept_at s.kept place ≡ Some search → (o : Option ℕ) → search.wanted ≡ o → ⊥
  none_kept_by place search at None none =
      no_more (inr (record { place = place; ready = record { search = search; at = at; wants_nothing = none } }))
  none_kept_by place search at (Some w) wants =
      let ends : Ends s.kept w = good.ends place w search at wants in
      elim ends.is as (λ _. ⊥) [
        | inl free_end ↦
            never_free w ends.steps ends.end (record { place = place; search = search; at = at; wants = wants }) ends.chain free_end
        | inr ready ↦
            no_more
            (inr
            (record {
              place = ready.place;
              ready = record { search = ready.holds.search; at = ready.holds.at; wants_nothing = ready.ready };
            }))
      ]

  none_by : (place : ℕ) (o : Option SearchValue) → kept_at s.kept place ≡ o → kept_at s.kept place ≡ None
  none_by place None at = at
  none_by place (Some search) at = absurd (none_kept_by place search at search.wanted refl)

  pub none_at : (place : ℕ) → kept_at s.kept place ≡ None
  none_at place = none_by place (kept_at s.kept place) refl

  root_released : (v : ℕ) → Contains roots v → HasMember s.groups v
  root_released v has =
      elim (good.given v has) as (λ _. HasMember s.groups v) [
        | inl to ↦ absurd (no_more (inl (omega (arith, to.1))))
        | inr claimed ↦
            let one = good.once v claimed in
            let running : times v (kept_nodes s.running) ≡ 0 = none_counted nodes_of refl s.running idle v in
            let waiting : times v (flat (map listed s.waiting)) ≡ 0 = none_counted listed refl s.waiting free v in
            let kept : times v (kept_nodes s.kept) ≡ 0 =
            none_counted nodes_of refl s.kept none_at v in
            from_flat s.groups v (stands_in v (flat s.groups) (omega (arith, one, running, waiting, kept)))
      ]

  pub all_released : IsComplete roots s.groups
  all_released = All-from_get_or (HasMember s.groups) roots 0 (λ k lt. root_released (get_or roots k 0) (k, lt, get_or_default roots k (get_or roots k 0) 0 lt))
