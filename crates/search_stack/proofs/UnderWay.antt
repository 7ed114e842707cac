-- The steps of one search after another.
use Rattle.std.proofs.Common.{◌≡◌, ◌⊎◌, inl, inr, ℕ, ◌<◌, ◌+◌, Bool, true, false, not, cond, true≢false, List, [], length, get_or, set, ap, ◌∙◌, sym, subst, arith, get_or-set_same, get_or-set_other, length-set}
use Rattle.std.proofs.lemmas.Bool.{cases_lt, cases_eq}
use Rattle.std.proofs.lemmas.List.Elements.{Contains-get_or, All-nil}
use Rattle.std.proofs.lemmas.List.Sums.{sum_by-set}
use Rattle.std.specs.Prelude.{Contains, count_by}
use Rattle.graph_law.specs.Graph.{Calls, IsClosed}
use Rattle.graph_law.specs.Classes.{HasMember, IsClass}
use Rattle.search_stack.specs.Stack.{Stack, size, height, top, node, position}
use Rattle.search_stack.specs.GoodSearch.{IsGood}
use Rattle.search_stack.specs.Search.{IsOn, empty_stack}
use Rattle.search_stack.specs.PlainSearch.{IsUnderWay, IsSeen, top_succs}
use Rattle.search_stack.proofs.Changes.{Pushes, Begins, Lowers, Retreats}
use Rattle.search_stack.proofs.Edges.{good_empty}
use Rattle.search_stack.proofs.Frames.{position_within}
use Rattle.search_stack.proofs.Shapes.{empty_size}

-- the stacks have the same nodes
pub record SameNodes (s t : Stack) : Type 0 where
  pub size_is : size t ≡ size s
  pub node_is : (i : ℕ) → node t i ≡ node s i

pub same_begins : {s t : Stack} {place : ℕ} → Begins s t place → SameNodes s t
same_begins new = record { size_is = new.size_is; node_is = new.node_is }

pub same_lowers : {s t : Stack} {frame place : ℕ} → Lowers s t frame place → SameNodes s t
same_lowers new = record { size_is = new.size_is; node_is = new.node_is }

pub same_retreats : {s t : Stack} {frame : ℕ} → Retreats s t frame → SameNodes s t
same_retreats new = record { size_is = new.size_is; node_is = new.node_is }

pub is_on_to : {s t : Stack} {v : ℕ} → SameNodes s t → IsOn s v → IsOn t v
is_on_to same on = record { place = on.place; within = omega (arith, on.within, same.size_is); is = same.node_is on.place ∙ on.is }

pub is_on_from : {s t : Stack} {v : ℕ} → SameNodes s t → IsOn t v → IsOn s v
is_on_from same on =
    record { place = on.place; within = omega (arith, on.within, same.size_is); is = sym (same.node_is on.place) ∙ on.is }

module _ {lists : List (List ℕ)} {roots : List ℕ} {seen : List Bool} {groups : List (List ℕ)} {opened : Bool} {s : Stack}
    (way : IsUnderWay lists roots seen groups opened s) where
  -- the nodes stay, and the stack stays good
  pub way_same : {t : Stack} (after : Bool) → SameNodes s t → IsGood lists roots way.finished after t → IsUnderWay lists roots seen groups after t
  way_same {t} after same good = record {
    finished = way.finished;
    good = good;
    in_groups = way.in_groups;
    are_finished = way.are_finished;
    each = way.each;
    only = λ v is.
        elim (way.only v is) as (λ _. IsOn t v ⊎ HasMember groups v) [ inl on ↦ inl (is_on_to same on) | inr member ↦ inr member ];
    on_seen = λ v on. way.on_seen v (is_on_from same on);
    members_seen = way.members_seen;
    apart = λ v on. way.apart v (is_on_from same on);
    once = λ i j within inside is.
        way.once i j (omega (arith, within, same.size_is)) (omega (arith, inside, same.size_is)) (sym (same.node_is i) ∙ is ∙ same.node_is j);
    legal = way.legal;
    reached = way.reached;
  }

  -- a node that isn't seen isn't on the stack
  pub unseen_is_off : (v : ℕ) → get_or seen v false ≡ false → IsOn s v → ⊥
  unseen_is_off v no_mark on = true≢false (sym (way.on_seen v on) ∙ no_mark)

  -- the successors of the top frame's entry are nodes
  pub tops_are_nodes : IsClosed lists → 0 < height s → (k d : ℕ) → k < length (top_succs s) → get_or (top_succs s) k d < length seen
  tops_are_nodes closed some k d lt =
      let within : position s (top s) < size s = position_within way.good.shaped (top s) (omega (arith, some)) in
      let P : List ℕ → Type 0 = λ list. Contains list (get_or (top_succs s) k d) in
      let call : Calls lists (node s (position s (top s))) (get_or (top_succs s) k d) =
      subst P (way.good.true_succs (position s (top s)) within) (Contains-get_or (top_succs s) k d lt) in
      omega (arith, closed (node s (position s (top s))) (get_or (top_succs s) k d) call, way.each)

-- there is nothing before the first search
pub way_start : (lists : List (List ℕ)) (roots : List ℕ) (seen : List Bool) → length seen ≡ length lists
    → ((v : ℕ) → get_or seen v false ≡ false) → IsUnderWay lists roots seen [] false empty_stack
way_start lists roots seen each unmarked =
    let none : (v : ℕ) → HasMember [] v → ⊥ = λ v has. omega (arith, has.within) in
    let off : (v : ℕ) → IsOn empty_stack v → ⊥ = λ v on. omega (arith, on.within, empty_size) in
    record {
      finished = [];
      good = good_empty lists roots [] false;
      in_groups = λ v member. absurd (omega (arith, member.1));
      are_finished = λ v has. absurd (none v has);
      each = each;
      only = λ v is. absurd (true≢false (sym is ∙ unmarked v));
      on_seen = λ v on. absurd (off v on);
      members_seen = λ v has. absurd (none v has);
      apart = λ v on. absurd (off v on);
      once = λ i j within. absurd (omega (arith, within, empty_size));
      legal = record {
        each = All-nil (IsClass (Calls lists));
        once = λ i j p within. absurd (omega (arith, within));
        callees_first = λ i p q within. absurd (omega (arith, within));
      };
      reached = λ v has. absurd (none v has);
    }

-- a node that wasn't seen is pushed and marked
module _ {lists : List (List ℕ)} {roots : List ℕ} {seen : List Bool} {groups : List (List ℕ)} {s : Stack}
    (way : IsUnderWay lists roots seen groups true s) (v : ℕ) (lt : v < length seen) (no_mark : get_or seen v false ≡ false) where
  kept_mark : (u : ℕ) → (u ≡ v → ⊥) → get_or (set seen v true) u false ≡ get_or seen u false
  kept_mark u ne = get_or-set_other seen v u true false ne

  marked : IsSeen (set seen v true) v
  marked = get_or-set_same seen v true false lt

  seen_stays : (u : ℕ) → IsSeen seen u → IsSeen (set seen v true) u
  seen_stays u is =
      elim (cases_eq u v) as (λ _. IsSeen (set seen v true) u)
      [ inl same ↦ ap (λ b. get_or (set seen v true) b false) same ∙ marked | inr ne ↦ kept_mark u ne ∙ is ]

  pub way_push : {t : Stack} {list : List ℕ} → Pushes s t v list → IsGood lists roots way.finished false t
      → IsUnderWay lists roots (set seen v true) groups false t
  way_push {t} {list} new good =
      let old_on : (u : ℕ) → IsOn s u → IsOn t u = λ u on.
      record { place = on.place; within = omega (arith, on.within, new.size_is); is = new.node_is on.place on.within ∙ on.is } in
      let new_on : IsOn t v = record { place = size s; within = omega (arith, new.size_is); is = new.node_new } in
      let on_cases : (u : ℕ) → IsOn t u → IsOn s u ⊎ (u ≡ v) = λ u on.
      elim (cases_lt on.place (size s)) as (λ _. IsOn s u ⊎ (u ≡ v)) [
        | inl old ↦ inl (record { place = on.place; within = old; is = sym (new.node_is on.place old) ∙ on.is })
        | inr le ↦
            let at : on.place ≡ size s = omega (arith, le, on.within, new.size_is) in
            inr (sym on.is ∙ ap (node t) at ∙ new.node_new)
      ] in
      let off : IsOn s v → ⊥ = unseen_is_off way v no_mark in
      let place_off : (i : ℕ) → i < size s → node t i ≡ v → ⊥ = λ i old is.
      off (record { place = i; within = old; is = sym (new.node_is i old) ∙ is }) in
      record {
        finished = way.finished;
        good = good;
        in_groups = way.in_groups;
        are_finished = way.are_finished;
        each = length-set seen v true ∙ way.each;
        only = λ u is.
            elim (cases_eq u v) as (λ _. IsOn t u ⊎ HasMember groups u) [
              | inl same ↦ let P : ℕ → Type 0 = λ w. IsOn t w in inl (subst P (sym same) new_on)
              | inr ne ↦
                  elim (way.only u (sym (kept_mark u ne) ∙ is)) as (λ _. IsOn t u ⊎ HasMember groups u)
                  [ inl on ↦ inl (old_on u on) | inr member ↦ inr member ]
            ];
        on_seen = λ u on.
            elim (on_cases u on) as (λ _. IsSeen (set seen v true) u) [
              | inl old ↦ seen_stays u (way.on_seen u old)
              | inr same ↦ let P : ℕ → Type 0 = λ w. IsSeen (set seen v true) w in subst P (sym same) marked
            ];
        members_seen = λ u has. seen_stays u (way.members_seen u has);
        apart = λ u on has.
            elim (on_cases u on) as (λ _. ⊥) [
              | inl old ↦ way.apart u old has
              | inr same ↦
                  let P : ℕ → Type 0 = λ w. HasMember groups w in
                  true≢false (sym (way.members_seen v (subst P same has)) ∙ no_mark)
            ];
        once = λ i j within inside is.
            elim (cases_lt i (size s)) as (λ _. i ≡ j) [
              | inl i_old ↦
                  elim (cases_lt j (size s)) as (λ _. i ≡ j) [
                    | inl j_old ↦ way.once i j i_old j_old (sym (new.node_is i i_old) ∙ is ∙ new.node_is j j_old)
                    | inr j_le ↦
                        let at : j ≡ size s = omega (arith, j_le, inside, new.size_is) in
                        absurd (place_off i i_old (is ∙ ap (node t) at ∙ new.node_new))
                  ]
              | inr i_le ↦
                  let at : i ≡ size s = omega (arith, i_le, within, new.size_is) in
                  elim (cases_lt j (size s)) as (λ _. i ≡ j) [
                    | inl j_old ↦ absurd (place_off j j_old (sym is ∙ ap (node t) at ∙ new.node_new))
                    | inr j_le ↦ omega (arith, at, j_le, inside, new.size_is)
                  ]
            ];
        legal = way.legal;
        reached = way.reached;
      }

-- one node fewer is unseen
pub fewer_unseen : (seen : List Bool) (v : ℕ) → v < length seen → get_or seen v false ≡ false
    → count_by not (set seen v true) + 1 ≡ count_by not seen
fewer_unseen seen v lt no_mark =
    let weight : Bool → ℕ = λ mark. cond (not mark) 1 0 in
    let was : weight (get_or seen v false) ≡ 1 = ap weight no_mark in
    omega (arith, sum_by-set weight seen v true false lt, was)
