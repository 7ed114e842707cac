-- The nodes of stacks and of groups, as lists.
use Rattle.std.proofs.Common.{◌≡◌, inl, inr, ℕ, zero, suc, ◌<◌, ◌+◌, List, [], ◌∷◌, ◌++◌, length, map, take, drop, get_or, refl, ap, ◌∙◌, sym, arith}
use Rattle.std.proofs.lemmas.List.{get_or-map, length-map, map-append}
use Rattle.std.proofs.lemmas.List.Elements.{Contains-append_left, Contains-append_right, Contains-append_cases}
use Rattle.std.specs.Prelude.{Contains}
use Rattle.list_laws.proofs.OneOrder.{nothing_in}
use Rattle.list_laws.specs.Counts.{times, flat}
use Rattle.list_laws.proofs.Counting.{times-append, counted}
use Rattle.graph_law.specs.Classes.{HasMember}
use Rattle.search_stack.specs.Stack.{Entry, Stack, size, node, position}
use Rattle.search_stack.specs.Search.{IsOn, below_frame, joined, lowered, nodes_from}
use Rattle.group_release.specs.Outline.{nodes_on}

-- a node is on a stack just where it is in the list of its nodes
pub on_listed : (s : Stack) (v : ℕ) → Contains (nodes_on s) v → IsOn s v
unfolding node size
on_listed s v (k, lt, is) =
    let no_entry : Entry = record { node = 0; succs = []; begun = 0 } in
    let within : k < length s.entries = omega (arith, lt, length-map s.entries (λ entry. entry.node)) in
    record { place = k; within = within; is = sym (get_or-map (λ entry. entry.node) s.entries k no_entry v within) ∙ is }

pub listed_on : (s : Stack) (v : ℕ) → IsOn s v → Contains (nodes_on s) v
unfolding node size
listed_on s v on =
    let no_entry : Entry = record { node = 0; succs = []; begun = 0 } in
    let within : on.place < length s.entries = on.within in (
      on.place,
      omega (arith, within, length-map s.entries (λ entry. entry.node)),
      get_or-map (λ entry. entry.node) s.entries on.place no_entry v within ∙ on.is,
    )

pub on_counted : (s : Stack) (v : ℕ) → IsOn s v → 0 < times v (nodes_on s)
on_counted s v on = counted v (nodes_on s) (listed_on s v on)

-- what is left below a frame and what moves on top of another stack
pub split_nodes : (x p : ℕ) (es : List Entry) → times x (map (λ entry. entry.node) (take p es)) + times x (map (λ entry. entry.node) (drop p es))
    ≡ times x (map (λ entry. entry.node) es)
split_nodes x zero es = omega arith
split_nodes x (suc p) [] = omega arith
split_nodes x (suc p) (e ∷ es) = let rest = split_nodes x p es in omega (arith, rest)

pub joined_nodes : (x : ℕ) (s d : Stack) (frame : ℕ)
    → times x (nodes_on (joined s d frame)) + times x (map (λ entry. entry.node) (take (position d frame) d.entries))
    ≡ times x (nodes_on s) + times x (nodes_on d)
unfolding joined
joined_nodes x s d frame =
    let upper : List ℕ = map (λ entry. entry.node) (drop (position d frame) d.entries) in
    let both : map (λ entry. entry.node) (s.entries ++ drop (position d frame) d.entries) ≡ nodes_on s ++ upper =
    map-append (λ entry. entry.node) s.entries (drop (position d frame) d.entries) in
    let sum : times x (map (λ entry. entry.node) (s.entries ++ drop (position d frame) d.entries)) ≡ times x (nodes_on s) + times x upper =
    ap (times x) both ∙ times-append x (nodes_on s) upper in
    omega (arith, sum, split_nodes x (position d frame) d.entries)

pub below_nodes : (x : ℕ) (d : Stack) (frame : ℕ)
    → times x (nodes_on (below_frame d frame)) ≡ times x (map (λ entry. entry.node) (take (position d frame) d.entries))
unfolding below_frame
below_nodes x d frame = refl

drop_nodes : (x p : ℕ) (es : List Entry) → times x (drop p (map (λ entry. entry.node) es)) ≡ times x (map (λ entry. entry.node) (drop p es))
drop_nodes x zero es = refl
drop_nodes x (suc p) [] = refl
drop_nodes x (suc p) (e ∷ es) = drop_nodes x p es

-- the nodes below a frame, and those from it on
pub below_counted : (s : Stack) (frame x : ℕ) → times x (nodes_on (below_frame s frame)) + times x (nodes_from s frame) ≡ times x (nodes_on s)
unfolding below_frame nodes_from
below_counted s frame x = omega (arith, split_nodes x (position s frame) s.entries, drop_nodes x (position s frame) s.entries)

-- a low that falls moves no node
pub lowered_nodes : (s : Stack) (place : ℕ) → nodes_on (lowered s place) ≡ nodes_on s
unfolding lowered
lowered_nodes s place = refl

pub lowered_on : (s : Stack) (place v : ℕ) → IsOn (lowered s place) v → IsOn s v
unfolding lowered size node
lowered_on s place v on = record { place = on.place; within = on.within; is = on.is }

pub lowered_size : (s : Stack) (place : ℕ) → size (lowered s place) ≡ size s
unfolding lowered size
lowered_size s place = refl

-- a node is a member of a group just where it is among the nodes of all groups
in_flat_at : (groups : List (List ℕ)) (v place : ℕ) → place < length groups → Contains (get_or groups place []) v → Contains (flat groups) v
in_flat_at [] v place within member = absurd (omega (arith, within))
in_flat_at (group ∷ groups) v zero within member = Contains-append_left group (flat groups) v member
in_flat_at (group ∷ groups) v (suc place) within member =
    Contains-append_right group (flat groups) v (in_flat_at groups v place (omega (arith, within)) member)

pub in_flat : (groups : List (List ℕ)) (v : ℕ) → HasMember groups v → Contains (flat groups) v
in_flat groups v has = in_flat_at groups v has.place has.within has.member

pub from_flat : (groups : List (List ℕ)) (v : ℕ) → Contains (flat groups) v → HasMember groups v
from_flat [] v has = absurd (nothing_in v has)
from_flat (group ∷ groups) v has =
    elim (Contains-append_cases group (flat groups) v has) as (λ _. HasMember (group ∷ groups) v) [
      | inl here ↦ record { place = 0; within = omega arith; member = here }
      | inr later ↦
          let rest : HasMember groups v = from_flat groups v later in
          record { place = suc rest.place; within = omega (arith, rest.within); member = rest.member }
    ]
