-- How often a node is counted where it stands at one place, and at two.
use Rattle.std.proofs.Common.{◌≡◌, inl, inr, ℕ, suc, ◌≤◌, ◌+◌, List, [], ◌∷◌, length, map, get_or, Option, None, Some, refl, ap, ◌∙◌, arith}
use Rattle.std.proofs.lemmas.Bool.{cases_eq, cases_lt}
use Rattle.std.proofs.lemmas.List.{get_or_past, map-append}
use Rattle.list_laws.specs.Counts.{times, flat, total}
use Rattle.list_laws.proofs.Counting.{times-append, times_here}
use Rattle.list_laws.proofs.Standing.{total_at, times-flat-map}
use Rattle.search_stack.specs.Stack.{Entry, Stack, size, node}
use Rattle.search_stack.specs.Search.{SearchValue, IsDistinct, pushed}
use Rattle.search_stack.proofs.UnderWay.{SameNodes}
use Rattle.blocked_table.specs.Kept.{kept_at, Holds, IsApart}
use Rattle.blocked_table.proofs.Chain.{place_within}
use Rattle.group_release.specs.Outline.{kept_nodes, listed, nodes_of, nodes_on}
use Rattle.group_release.proofs.Nodes.{on_counted}
use Rattle.group_release.proofs.OnceCounts.{one_of, two_of}

-- what searches at two places hold
pub held_twice : (kept : List (Option SearchValue)) (i j v : ℕ) → Holds kept i v → Holds kept j v → (i ≡ j → ⊥) → 2 ≤ times v (kept_nodes kept)
held_twice kept i j v first second other =
    let f : Option SearchValue → ℕ = λ o. times v (nodes_of o) in
    let least : f (kept_at kept i) + f (kept_at kept j) ≤ total f kept =
    two_of f None kept i j (place_within kept i first.search first.at) (place_within kept j second.search second.at) other in
    let here : f (kept_at kept i) ≡ times v (nodes_on first.search.stack) = ap f first.at in
    let there : f (kept_at kept j) ≡ times v (nodes_on second.search.stack) = ap f second.at in
    omega (
      arith,
      least,
      here,
      there,
      on_counted first.search.stack v first.on,
      on_counted second.search.stack v second.on,
      times-flat-map v nodes_of kept,
    )

pub nodes_counted : (kept : List (Option SearchValue)) (i v : ℕ) (search : SearchValue) → kept_at kept i ≡ Some search
    → times v (nodes_on search.stack) ≤ times v (kept_nodes kept)
nodes_counted kept i v search at =
    let f : Option SearchValue → ℕ = λ o. times v (nodes_of o) in
    let least : f (kept_at kept i) ≤ total f kept = one_of f None kept i (place_within kept i search at) in
    let here : f (kept_at kept i) ≡ times v (nodes_on search.stack) = ap f at in
    omega (arith, least, here, times-flat-map v nodes_of kept)

pub place_counted : (kept : List (Option SearchValue)) (i v : ℕ) → times v (nodes_of (kept_at kept i)) ≤ times v (kept_nodes kept)
place_counted kept i v =
    let f : Option SearchValue → ℕ = λ o. times v (nodes_of o) in
    elim (cases_lt i (length kept)) as (λ _. f (kept_at kept i) ≤ times v (kept_nodes kept)) [
      | inl lt ↦ let least = one_of f None kept i lt in omega (arith, least, times-flat-map v nodes_of kept)
      | inr past ↦ let none : f (kept_at kept i) ≡ 0 = ap f (get_or_past kept i None past) in omega (arith, none)
    ]

-- where each node is counted once at most, no node is on two searches, or on one twice
pub apart_counted : (kept : List (Option SearchValue)) → ((v : ℕ) → times v (kept_nodes kept) ≤ 1) → IsApart kept
apart_counted kept once i j v first second =
    elim (cases_eq i j) as (λ _. i ≡ j)
    [ inl is ↦ is | inr other ↦ let two = held_twice kept i j v first second other in absurd (omega (arith, once v, two)) ]

times_total : (x : ℕ) (es : List Entry) → times x (map (λ entry. entry.node) es) ≡ total (λ (entry : Entry). times x (entry.node ∷ [])) es
times_total x [] = refl
times_total x (e ∷ es) = let rest = times_total x es in omega (arith, rest)

pub distinct_counted : (s : Stack) → ((v : ℕ) → times v (nodes_on s) ≤ 1) → IsDistinct s
unfolding node size
distinct_counted s once i j lt within is =
    elim (cases_eq i j) as (λ _. i ≡ j) [
      | inl same ↦ same
      | inr other ↦
          let v : ℕ = node s j in
          let no_entry : Entry = record { node = 0; succs = []; begun = 0 } in
          let f : Entry → ℕ = λ entry. times v (entry.node ∷ []) in
          let two : f (get_or s.entries i no_entry) + f (get_or s.entries j no_entry) ≤ total f s.entries =
          two_of f no_entry s.entries i j lt within other in
          let first : f (get_or s.entries i no_entry) ≡ 1 = ap (λ u. times v (u ∷ [])) is ∙ times_here v in
          let second : f (get_or s.entries j no_entry) ≡ 1 = times_here v in
          absurd (omega (arith, two, first, second, once v, times_total v s.entries))
    ]

-- stacks with the same nodes count them the same
nodes_same : (olds news : List Entry) (d : Entry) → length news ≡ length olds → ((i : ℕ) → (get_or news i d).node ≡ (get_or olds i d).node) → (x : ℕ)
    → times x (map (λ entry. entry.node) news) ≡ times x (map (λ entry. entry.node) olds)
nodes_same [] [] d each same x = refl
nodes_same [] (e ∷ es) d each same x = absurd (omega (arith, each))
nodes_same (e ∷ es) [] d each same x = absurd (omega (arith, each))
nodes_same (o ∷ olds) (n ∷ news) d each same x =
    let rest = nodes_same olds news d (omega (arith, each)) (λ i. same (suc i)) x in
    let here : times x (n.node ∷ []) ≡ times x (o.node ∷ []) = ap (λ u. times x (u ∷ [])) (same 0) in
    omega (arith, rest, here)

pub same_counted : {s t : Stack} → SameNodes s t → (x : ℕ) → times x (nodes_on t) ≡ times x (nodes_on s)
unfolding node size
same_counted {s} {t} same x = nodes_same s.entries t.entries (record { node = 0; succs = []; begun = 0 }) same.size_is same.node_is x

pub pushed_counted : (s : Stack) (v : ℕ) (list : List ℕ) (x : ℕ) → times x (nodes_on (pushed s v list)) ≡ times x (nodes_on s) + times x (v ∷ [])
unfolding pushed
pushed_counted s v list x =
    let entry : Entry = record { node = v; succs = list; begun = 0 } in
    ap (times x) (map-append (λ entry. entry.node) s.entries (entry ∷ [])) ∙ times-append x (nodes_on s) (v ∷ [])

no_nodes : (es : List Entry) (x : ℕ) → length es ≡ 0 → times x (map (λ entry. entry.node) es) ≡ 0
no_nodes [] x none = refl
no_nodes (e ∷ es) x none = absurd (omega (arith, none))

pub empty_counted : (s : Stack) (x : ℕ) → size s ≡ 0 → times x (nodes_on s) ≡ 0
unfolding size
empty_counted s x none = no_nodes s.entries x none

-- one place waits for another node than before
pub waiting_change : (x : ℕ) (old new : List (Option ℕ)) (place : ℕ) → ((i : ℕ) → (i ≡ place → ⊥) → get_or new i None ≡ get_or old i None)
    → times x (flat (map listed new)) + times x (listed (get_or old place None))
    ≡ times x (flat (map listed old)) + times x (listed (get_or new place None))
waiting_change x old new place same =
    let f : Option ℕ → ℕ = λ o. times x (listed o) in
    let sums : total f new + f (get_or old place None) ≡ total f old + f (get_or new place None) = total_at f None refl old new place same in
    omega (arith, sums, times-flat-map x listed old, times-flat-map x listed new)
