-- A group that is released is a class, and the groups stay a legal order.
use Rattle.std.proofs.Common.{◌≡◌, ◌⊎◌, inl, inr, ℕ, ◌<◌, ◌≤◌, ◌+◌, ◌-◌, Bool, false, List, [], ◌∷◌, ◌++◌, length, get_or, drop, map, eqb, ne_eqb, IsPermutation, IsSorted, nat_cmp, ◌∙◌, sym, subst, arith}
use Rattle.std.proofs.lemmas.Bool.{cases_lt, cases_eq, eq-eqb}
use Rattle.std.proofs.lemmas.List.{length_push, get_or_push, get_or_append_left, get_or-map, length-map, get_or-drop, length-drop}
use Rattle.std.proofs.lemmas.List.Elements.{All-push, Contains-append_left, Contains-append_right, Contains-append_cases}
use Rattle.std.proofs.lemmas.List.Sorted.{IsPermutation-sym, IsNonDecreasingBy-from_sort, length_permutation, Contains-permutation}
use Rattle.std.proofs.lemmas.Map.Keys.{IsDistinct-from_apart, IsDistinct-IsPermutation, IsStrictlyIncreasing-from_distinct}
use Rattle.std.specs.List.{IsDistinct as AreDistinct}
use Rattle.std.specs.List.Sorted.{IsStrictlyIncreasing}
use Rattle.std.specs.Prelude.{Contains}
use Rattle.graph_law.specs.Graph.{Calls}
use Rattle.graph_law.specs.Reach.{IsReached, ReachEachOther}
use Rattle.graph_law.specs.Classes.{HasMember, IsClass, group_at}
use Rattle.graph_law.specs.LegalOrder.{IsLegalOrder, StandsUpTo}
use Rattle.graph_law.proofs.ClassLaws.{HasMember-push_left, HasMember-push, HasMember-push_cases}
use Rattle.graph_law.proofs.ReachLaws.{along_walk}
use Rattle.search_stack.specs.Stack.{Entry, Stack, size, node, position}
use Rattle.search_stack.specs.GoodSearch.{IsGood, StandsIn}
use Rattle.search_stack.specs.Search.{IsOn, IsDistinct, IsReleasable, nodes_from}
use Rattle.search_stack.specs.PlainSearch.{IsUnderWay, IsSeen}
use Rattle.search_stack.proofs.Changes.{Keeps}
use Rattle.search_stack.proofs.Frames.{position_within}
use Rattle.search_stack.proofs.Steps.{holds_from}
use Rattle.search_stack.proofs.Taken.{HoldsFrom}

-- a member of a group is one up to its place
up_to_member : {groups : List (List ℕ)} {i q : ℕ} → i < length groups → StandsUpTo groups i q → HasMember groups q
up_to_member lt upto = record { place = upto.place; within = omega (arith, upto.upto, lt); member = upto.member }

-- what the members of legal groups call are members
pub legal_call : {calls : ℕ → ℕ → Type 0} {groups : List (List ℕ)} → IsLegalOrder calls groups
    → (p q : ℕ) → HasMember groups p → calls p q → HasMember groups q
legal_call legal p q has call = up_to_member has.within (legal.callees_first has.place p q has.within has.member call)

-- a group that may be released after legal groups, with which it shares no node, is a whole class
pub whole_class : {lists : List (List ℕ)} {roots done group : List ℕ} {groups : List (List ℕ)} → IsLegalOrder (Calls lists) groups
    → IsReleasable lists roots done group → ((v : ℕ) → Contains done v → HasMember groups v)
    → ((v : ℕ) → Contains group v → HasMember groups v → ⊥)
    → (p q : ℕ) → Contains group p → ReachEachOther (Calls lists) p q → Contains group q
whole_class {lists} {roots} {done} {group} {groups} legal release finished apart p q member both =
    let P : ℕ → Type 0 = λ v. Contains group v ⊎ HasMember groups v in
    let step : (u v : ℕ) → P u → Calls lists u v → P v = λ u v either call.
    elim either as (λ _. P v) [
      | inl here ↦
          elim (release.calls u v here call) as (λ _. P v) [ inl there ↦ inl there | inr ended ↦ inr (finished v ended) ]
      | inr below ↦ inr (legal_call legal u v below call)
    ] in
    elim (along_walk (Calls lists) P step p both.there.path q both.there.walk (inl member)) as (λ _. Contains group q) [
      | inl here ↦ here
      | inr below ↦
          absurd
          (apart p member
          (along_walk (Calls lists) (λ v. HasMember groups v) (legal_call legal) q both.back.path p both.back.walk below))
    ]

-- one more class at the end, which calls itself and the groups before it
pub legal_push : {calls : ℕ → ℕ → Type 0} {groups : List (List ℕ)} {class : List ℕ} → IsLegalOrder calls groups → IsClass calls class
    → ((v : ℕ) → Contains class v → HasMember groups v → ⊥)
    → ((p q : ℕ) → Contains class p → calls p q → Contains class q ⊎ HasMember groups q)
    → IsLegalOrder calls (groups ++ class ∷ [])
legal_push {calls} {groups} {class} legal is apart leads =
    let all : List (List ℕ) = groups ++ class ∷ [] in
    let long : length all ≡ length groups + 1 = length_push groups class in
    let old_at : (i : ℕ) → i < length groups → group_at all i ≡ group_at groups i = λ i lt. get_or_append_left groups (class ∷ []) [] i lt in
    let new_at : (i : ℕ) → i ≡ length groups → group_at all i ≡ class = λ i at. get_or_push groups class [] i (sym at) in
    let old_member : (i p : ℕ) → i < length groups → Contains (group_at all i) p → Contains (group_at groups i) p = λ i p lt member.
    subst (λ g. Contains g p) (old_at i lt) member in
    let new_member : (i p : ℕ) → i ≡ length groups → Contains (group_at all i) p → Contains class p = λ i p at member.
    subst (λ g. Contains g p) (new_at i at) member in
    let old_place : (i p : ℕ) → i < length groups → Contains (group_at all i) p → HasMember groups p = λ i p lt member.
    record { place = i; within = lt; member = old_member i p lt member } in
    let old_upto : (i q : ℕ) → i < length all → HasMember groups q → length groups ≤ i → StandsUpTo all i q = λ i q lt has le.
    record {
      place = has.place;
      upto = omega (arith, has.within, le);
      member = subst (λ g. Contains g q) (sym (old_at has.place has.within)) has.member;
    } in
    record {
      each = All-push (IsClass calls) groups class legal.each is;
      once = λ i j p within inside here there.
          elim (cases_lt i (length groups)) as (λ _. i ≡ j) [
            | inl i_old ↦
                elim (cases_lt j (length groups)) as (λ _. i ≡ j) [
                  | inl j_old ↦ legal.once i j p i_old j_old (old_member i p i_old here) (old_member j p j_old there)
                  | inr j_le ↦ absurd (apart p (new_member j p (omega (arith, j_le, inside, long)) there) (old_place i p i_old here))
                ]
            | inr i_le ↦
                elim (cases_lt j (length groups)) as (λ _. i ≡ j) [
                  | inl j_old ↦ absurd (apart p (new_member i p (omega (arith, i_le, within, long)) here) (old_place j p j_old there))
                  | inr j_le ↦ omega (arith, i_le, j_le, within, inside, long)
                ]
          ];
      callees_first = λ i p q within member call.
          elim (cases_lt i (length groups)) as (λ _. StandsUpTo all i q) [
            | inl old ↦
                let upto : StandsUpTo groups i q = legal.callees_first i p q old (old_member i p old member) call in
                record {
                  place = upto.place;
                  upto = upto.upto;
                  member = subst (λ g. Contains g q) (sym (old_at upto.place (omega (arith, upto.upto, old)))) upto.member;
                }
            | inr le ↦
                let at : i ≡ length groups = omega (arith, le, within, long) in
                elim (leads p q (new_member i p at member) call) as (λ _. StandsUpTo all i q) [
                  | inl here ↦
                      record { place = i; upto = omega arith; member = subst (λ g. Contains g q) (sym (new_at i at)) here }
                  | inr below ↦ old_upto i q within below le
                ]
          ];
    }

-- the nodes from a frame on are distinct
nodes_distinct : (s : Stack) (frame : ℕ) → IsDistinct s → AreDistinct eqb (nodes_from s frame)
unfolding nodes_from size node
nodes_distinct s frame once =
    let nodes : List ℕ = map (λ entry. entry.node) s.entries in
    let p : ℕ = position s frame in
    let no_entry : Entry = record { node = 0; succs = []; begun = 0 } in
    let long : length nodes ≡ length s.entries = length-map s.entries (λ entry. entry.node) in
    let rest : length (drop p nodes) ≡ length nodes - p = length-drop p nodes in
    let read : (i d : ℕ) → p + i < length s.entries → get_or (drop p nodes) i d ≡ node s (p + i) = λ i d lt.
    get_or-drop p nodes i d ∙ get_or-map (λ entry. entry.node) s.entries (p + i) no_entry d lt in
    IsDistinct-from_apart eqb (drop p nodes)
    (λ i j d below lt.
    let j_within : p + j < length s.entries = omega (arith, lt, rest, long) in
    let i_within : p + i < length s.entries = omega (arith, below, j_within) in
    ne_eqb (get_or (drop p nodes) i d) (get_or (drop p nodes) j d)
    (λ is.
    let same : p + i ≡ p + j = once (p + i) (p + j) i_within j_within (sym (read i d i_within) ∙ is ∙ read j d j_within) in
    omega (arith, same, below)))

eqb_flips : (x y : ℕ) → eqb x y ≡ eqb y x
eqb_flips x y =
    elim (cases_eq x y) as (λ _. eqb x y ≡ eqb y x) [
      | inl same ↦ eq-eqb x y same ∙ sym (eq-eqb y x (sym same))
      | inr ne ↦ ne_eqb x y ne ∙ sym (ne_eqb y x (λ is. ne (sym is)))
    ]

-- the group, sorted, ascends
sorted_ascends : (s : Stack) (frame : ℕ) (group sorted : List ℕ) → IsDistinct s → group ≡ nodes_from s frame → IsPermutation group sorted
    → IsSorted nat_cmp sorted → IsStrictlyIncreasing sorted
sorted_ascends s frame group sorted once is moved up =
    IsStrictlyIncreasing-from_distinct sorted (IsNonDecreasingBy-from_sort (λ x. x) sorted up)
    (IsDistinct-IsPermutation eqb eqb_flips group sorted moved (subst (AreDistinct eqb) (sym is) (nodes_distinct s frame once)))

-- the top segment leaves the stack and is the last group
pub way_release : {lists : List (List ℕ)} {roots : List ℕ} {seen : List Bool} {groups : List (List ℕ)} {s t : Stack} {frame : ℕ}
    (group sorted : List ℕ) (way : IsUnderWay lists roots seen groups false s) → Keeps s t frame → group ≡ nodes_from s frame
    → IsReleasable lists roots way.finished group → IsGood lists roots (way.finished ++ group) false t
    → IsPermutation group sorted → IsSorted nat_cmp sorted → IsUnderWay lists roots seen (groups ++ sorted ∷ []) false t
way_release {lists} {roots} {seen} {groups} {s} {t} {frame} group sorted way new is release good moved up =
    let holds : HoldsFrom s (position s frame) group = subst (HoldsFrom s (position s frame)) (sym is) (holds_from s frame) in
    let back : IsPermutation sorted group = IsPermutation-sym group sorted moved in
    let from_sorted : (v : ℕ) → Contains sorted v → Contains group v = λ v member. Contains-permutation sorted group v back member in
    let to_sorted : (v : ℕ) → Contains group v → Contains sorted v = λ v member. Contains-permutation group sorted v moved member in
    let group_on : (v : ℕ) → Contains group v → IsOn s v = λ v member.
    let stands : StandsIn s (position s frame) (size s) v = holds.to v member in
    record { place = stands.place; within = stands.below; is = stands.is } in
    let apart : (v : ℕ) → Contains group v → HasMember groups v → ⊥ = λ v member has. way.apart v (group_on v member) has in
    let kept_on : (v : ℕ) → IsOn t v → IsOn s v = λ v on.
    let below : on.place < position s frame = omega (arith, on.within, new.size_is) in
    record {
      place = on.place;
      within = omega (arith, below, position_within way.good.shaped frame new.within);
      is = sym (new.node_is on.place below) ∙ on.is;
    } in
    let kept_off : (v : ℕ) → IsOn t v → Contains group v → ⊥ = λ v on member.
    let below : on.place < position s frame = omega (arith, on.within, new.size_is) in
    let stands : StandsIn s (position s frame) (size s) v = holds.to v member in
    let same : on.place ≡ stands.place =
    way.once on.place stands.place (omega (arith, below, position_within way.good.shaped frame new.within)) stands.below
    (sym (new.node_is on.place below) ∙ on.is ∙ sym stands.is) in
    omega (arith, same, below, stands.from) in
    let on_cases : (v : ℕ) → IsOn s v → IsOn t v ⊎ Contains group v = λ v on.
    elim (cases_lt on.place (position s frame)) as (λ _. IsOn t v ⊎ Contains group v) [
      | inl below ↦
          inl (record { place = on.place; within = omega (arith, below, new.size_is); is = new.node_is on.place below ∙ on.is })
      | inr le ↦ let P : ℕ → Type 0 = λ u. Contains group u in inr (subst P on.is (holds.from on.place le on.within))
    ] in
    let class : IsClass (Calls lists) sorted = record {
      inhabited = omega (arith, length_permutation group sorted moved, release.inhabited);
      ascending = sorted_ascends s frame group sorted way.once is moved up;
      mutual_reach = λ p q first second. release.mutual_reach p q (from_sorted p first) (from_sorted q second);
      whole = λ p q member both. to_sorted q (whole_class way.legal release way.in_groups apart p q (from_sorted p member) both);
    } in
    record {
      finished = way.finished ++ group;
      good = good;
      in_groups = λ v member.
          elim (Contains-append_cases way.finished group v member) as (λ _. HasMember (groups ++ sorted ∷ []) v) [
            | inl old ↦ HasMember-push_left groups sorted v (way.in_groups v old)
            | inr newly ↦ HasMember-push groups sorted v (to_sorted v newly)
          ];
      are_finished = λ v has.
          elim (HasMember-push_cases groups sorted v has) as (λ _. Contains (way.finished ++ group) v) [
            | inl old ↦ Contains-append_left way.finished group v (way.are_finished v old)
            | inr newly ↦ Contains-append_right way.finished group v (from_sorted v newly)
          ];
      each = way.each;
      only = λ v mark.
          elim (way.only v mark) as (λ _. IsOn t v ⊎ HasMember (groups ++ sorted ∷ []) v) [
            | inl on ↦
                elim (on_cases v on) as (λ _. IsOn t v ⊎ HasMember (groups ++ sorted ∷ []) v)
                [ inl kept ↦ inl kept | inr member ↦ inr (HasMember-push groups sorted v (to_sorted v member)) ]
            | inr has ↦ inr (HasMember-push_left groups sorted v has)
          ];
      on_seen = λ v on. way.on_seen v (kept_on v on);
      members_seen = λ v has.
          elim (HasMember-push_cases groups sorted v has) as (λ _. IsSeen seen v)
          [ inl old ↦ way.members_seen v old | inr newly ↦ way.on_seen v (group_on v (from_sorted v newly)) ];
      apart = λ v on has.
          elim (HasMember-push_cases groups sorted v has) as (λ _. ⊥)
          [ inl old ↦ way.apart v (kept_on v on) old | inr newly ↦ kept_off v on (from_sorted v newly) ];
      once = λ i j within inside same.
          let i_below : i < position s frame = omega (arith, within, new.size_is) in
          let j_below : j < position s frame = omega (arith, inside, new.size_is) in
          way.once i j (omega (arith, i_below, position_within way.good.shaped frame new.within))
          (omega (arith, j_below, position_within way.good.shaped frame new.within))
          (sym (new.node_is i i_below) ∙ same ∙ new.node_is j j_below);
      legal =
          legal_push way.legal class (λ v member. apart v (from_sorted v member))
          (λ p q member call.
          elim (release.calls p q (from_sorted p member) call) as (λ _. Contains sorted q ⊎ HasMember groups q)
          [ inl here ↦ inl (to_sorted q here) | inr finished ↦ inr (way.in_groups q finished) ]);
      reached = λ v has.
          elim (HasMember-push_cases groups sorted v has) as (λ _. IsReached (Calls lists) roots v)
          [ inl old ↦ way.reached v old | inr newly ↦ release.reached v (from_sorted v newly) ];
    }
