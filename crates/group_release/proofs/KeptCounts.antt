-- How often nodes stand on kept searches, and which are wanted.
use Rattle.std.proofs.Common.{◌≡◌, inl, inr, ℕ, ◌<◌, ◌≤◌, ◌+◌, List, [], length, map, get_or, Option, None, Some, refl, ap, ◌∙◌, sym, subst, arith}
use Rattle.std.proofs.lemmas.List.{get_or-map, length-map, get_or_past}
use Rattle.std.proofs.lemmas.Bool.{cases_lt}
use Rattle.std.specs.Prelude.{Contains}
use Rattle.list_laws.proofs.OneOrder.{first_or_rest, in_first, nothing_in}
use Rattle.list_laws.specs.Counts.{times, total}
use Rattle.list_laws.proofs.Counting.{counted, standing}
use Rattle.list_laws.proofs.Standing.{total_at, total_less, times-flat-map}
use Rattle.graph_law.specs.Classes.{HasMember}
use Rattle.search_stack.specs.Search.{SearchValue}
use Rattle.blocked_table.specs.Kept.{kept_at, Holds}
use Rattle.blocked_table.proofs.Chain.{none_is_not, place_within}
use Rattle.group_release.specs.Outline.{kept_nodes, listed, nodes_of, nodes_on, wanted_nodes, wants_of}
use Rattle.group_release.proofs.Nodes.{from_flat, in_flat, on_counted}
use Rattle.group_release.proofs.OnceCounts.{one_of}

-- what a search at a place holds
pub held_counted : (kept : List (Option SearchValue)) (i v : ℕ) → Holds kept i v → 0 < times v (kept_nodes kept)
held_counted kept i v holds =
    let f : Option SearchValue → ℕ = λ o. times v (nodes_of o) in
    let least : f (kept_at kept i) ≤ total f kept = one_of f None kept i (place_within kept i holds.search holds.at) in
    let here : f (kept_at kept i) ≡ times v (nodes_on holds.search.stack) = ap f holds.at in
    omega (arith, least, here, on_counted holds.search.stack v holds.on, times-flat-map v nodes_of kept)

-- one place changes
pub kept_change : (x : ℕ) (old new : List (Option SearchValue)) (place : ℕ) → ((i : ℕ) → (i ≡ place → ⊥) → kept_at new i ≡ kept_at old i)
    → times x (kept_nodes new) + times x (nodes_of (kept_at old place)) ≡ times x (kept_nodes old) + times x (nodes_of (kept_at new place))
kept_change x old new place same =
    let f : Option SearchValue → ℕ = λ o. times x (nodes_of o) in
    let sums : total f new + f (kept_at old place) ≡ total f old + f (kept_at new place) = total_at f None refl old new place same in
    omega (arith, sums, times-flat-map x nodes_of old, times-flat-map x nodes_of new)

pub wanted_change : (x : ℕ) (old new : List (Option SearchValue)) (place : ℕ) → ((i : ℕ) → (i ≡ place → ⊥) → kept_at new i ≡ kept_at old i)
    → times x (wanted_nodes new) + times x (wants_of (kept_at old place)) ≡ times x (wanted_nodes old) + times x (wants_of (kept_at new place))
wanted_change x old new place same =
    let f : Option SearchValue → ℕ = λ o. times x (wants_of o) in
    let sums : total f new + f (kept_at old place) ≡ total f old + f (kept_at new place) = total_at f None refl old new place same in
    omega (arith, sums, times-flat-map x wants_of old, times-flat-map x wants_of new)

-- each place wants no more
pub wanted_less : (x : ℕ) (old new : List (Option SearchValue))
    → ((i : ℕ) → times x (wants_of (kept_at new i)) ≤ times x (wants_of (kept_at old i))) → times x (wanted_nodes new) ≤ times x (wanted_nodes old)
wanted_less x old new less =
    let sums = total_less (λ (o : Option SearchValue). times x (wants_of o)) None refl old new less in
    omega (arith, sums, times-flat-map x wants_of old, times-flat-map x wants_of new)

-- a search that is kept at a place wants the node
pub record WantsAt (kept : List (Option SearchValue)) (x : ℕ) : Type 0 where
  pub place : ℕ
  pub search : SearchValue
  pub at : kept_at kept place ≡ Some search
  pub wants : search.wanted ≡ Some x

listed_is : (o : Option ℕ) (x : ℕ) → Contains (listed o) x → o ≡ Some x
listed_is None x has = absurd (nothing_in x has)
listed_is (Some w) x has =
    elim (first_or_rest w x [] has) as (λ _. Some w ≡ Some x) [ inl is ↦ ap (λ u. Some u) is | inr later ↦ absurd (nothing_in x later) ]

wants_by : (kept : List (Option SearchValue)) (x place : ℕ) (o : Option SearchValue) → kept_at kept place ≡ o → Contains (wants_of o) x → WantsAt kept x
wants_by kept x place None at has = absurd (nothing_in x has)
wants_by kept x place (Some search) at has = record { place = place; search = search; at = at; wants = listed_is search.wanted x has }

pub wanted_at : (kept : List (Option SearchValue)) (x : ℕ) → 0 < times x (wanted_nodes kept) → WantsAt kept x
wanted_at kept x some =
    let has : HasMember (map wants_of kept) x = from_flat (map wants_of kept) x (standing x (wanted_nodes kept) some) in
    let within : has.place < length kept = omega (arith, has.within, length-map kept wants_of) in
    let read : get_or (map wants_of kept) has.place [] ≡ wants_of (kept_at kept has.place) = get_or-map wants_of kept has.place None [] within in
    wants_by kept x has.place (kept_at kept has.place) refl (subst (λ each. Contains each x) read has.member)

pub at_wanted : (kept : List (Option SearchValue)) (x : ℕ) → WantsAt kept x → 0 < times x (wanted_nodes kept)
at_wanted kept x at =
    let within : at.place < length kept =
    elim (cases_lt at.place (length kept)) as (λ _. at.place < length kept)
    [ inl lt ↦ lt | inr past ↦ absurd (none_is_not at.search (kept_at kept at.place) (get_or_past kept at.place None past) at.at) ] in
    let read : get_or (map wants_of kept) at.place [] ≡ listed (Some x) =
    get_or-map wants_of kept at.place None [] within ∙ ap wants_of at.at ∙ ap listed at.wants in
    counted x (wanted_nodes kept)
    (in_flat (map wants_of kept) x
    (record {
      place = at.place;
      within = omega (arith, within, length-map kept wants_of);
      member = subst (λ each. Contains each x) (sym read) (in_first x []);
    }))
