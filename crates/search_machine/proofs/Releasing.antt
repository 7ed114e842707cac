-- A group is released: the state stays good.
use Rattle.std.proofs.Common.{◌≡◌, inl, inr, ℕ, ◌<◌, ◌≤◌, ◌+◌, false, List, [], ◌∷◌, ◌++◌, length, get_or, Option, None, Some, refl, ap, sym, subst, arith}
use Rattle.std.proofs.lemmas.List.Elements.{All-from_get_or, Contains-append_cases}
use Rattle.std.proofs.lemmas.List.{get_or_default}
use Rattle.std.specs.Prelude.{Contains}
use Rattle.list_laws.specs.Counts.{times, flat}
use Rattle.list_laws.proofs.Counting.{counted}
use Rattle.graph_law.specs.Classes.{HasMember}
use Rattle.search_stack.specs.Stack.{Stack, size, top}
use Rattle.search_stack.specs.GoodSearch.{IsGood}
use Rattle.search_stack.specs.Search.{SearchValue, IsReleasable, IsRipe, below_frame, nodes_from}
use Rattle.search_stack.proofs.Edges.{good_more}
use Rattle.blocked_table.specs.Kept.{Holds}
use Rattle.blocked_table.proofs.Chain.{none_is_not, some_is}
use Rattle.blocked_table.proofs.WakeGood.{woken_good}
use Rattle.group_release.specs.Book.{IsGoodBook}
use Rattle.group_release.specs.Outline.{kept_nodes, nodes_of, nodes_on}
use Rattle.group_release.specs.Released.{IsNewGroup, ReleasedGroups}
use Rattle.group_release.proofs.Beside.{reached_within}
use Rattle.group_release.proofs.KeptCounts.{held_counted}
use Rattle.group_release.proofs.Nodes.{below_counted, in_flat}
use Rattle.group_release.proofs.OnceCounts.{distinct_listed}
use Rattle.group_release.proofs.Waking.{more_new, more_old, released_count, released_good, was_kept, woken_nodes}
use Rattle.search_machine.specs.Events.{GoesOn, Releases, Runs, SetsAt}
use Rattle.search_machine.specs.State.{State, IsGoodState}
use Rattle.search_machine.proofs.Counts.{empty_counted, place_counted}
use Rattle.search_machine.proofs.Good.{IsPlain, IsSettled, at_most_once, plain_good}
use Rattle.search_machine.proofs.KeptEnds.{woken_ends}
use Rattle.search_machine.proofs.Stacks.{leaves, left_good}
use Rattle.search_machine.proofs.Turns.{HasStack, has_stack}

-- the group of the ripe top segment
module _ {lists : List (List ℕ)} {roots : List ℕ} {s : State} {place : ℕ} {stack : Stack} (good : IsGoodState lists roots false s)
    (runs : Runs s place stack) (ripe : IsRipe stack) where
  abbrev ripe_group : List ℕ
  ripe_group = nodes_from stack (top stack)

  top_was : HasStack lists roots s place false stack
  top_was = has_stack good runs

  pub ripe_releasable : IsReleasable lists roots (flat s.groups) ripe_group
  ripe_releasable = leaves top_was.good ripe

  group_counted : (v : ℕ) → times v ripe_group ≤ times v (kept_nodes s.running)
  group_counted v = omega (arith, below_counted stack (top stack) v, top_was.counted v, place_counted s.running place v)

  pub ripe_fresh : (v : ℕ) → Contains ripe_group v → HasMember s.groups v → ⊥
  ripe_fresh v has member =
      let once = at_most_once good v in
      let own = group_counted v in
      let here = counted v ripe_group has in
      let other = counted v (flat s.groups) (in_flat s.groups v member) in
      omega (arith, once, own, here, other)

  pub ripe_apart : (i v : ℕ) → Holds s.kept i v → Contains ripe_group v → ⊥
  ripe_apart i v holds has =
      let once = at_most_once good v in
      let own = group_counted v in
      let here = counted v ripe_group has in
      let other = held_counted s.kept i v holds in
      omega (arith, once, own, here, other)

  pub ripe_new : IsNewGroup (record { count = length lists; groups = s.groups }) ripe_group
  ripe_new = record {
    inhabited = ripe_releasable.inhabited;
    distinct = distinct_listed ripe_group (λ v. let once = at_most_once good v in let own = group_counted v in omega (arith, once, own));
    below =
        All-from_get_or (λ node. node < length lists) ripe_group 0
        (λ k lt.
        reached_within lists roots good.book.closed good.book.rooted (get_or ripe_group k 0)
        (ripe_releasable.reached (get_or ripe_group k 0) (k, lt, get_or_default ripe_group k (get_or ripe_group k 0) 0 lt)));
    fresh = ripe_fresh;
  }

module _ {lists : List (List ℕ)} {roots : List ℕ} {s t : State} {place : ℕ} (good : IsGoodState lists roots false s) (e : Releases s place t) where
  abbrev group : List ℕ
  group = nodes_from e.stack (top e.stack)

  abbrev left : Stack
  left = below_frame e.stack (top e.stack)

  was : HasStack lists roots s place false e.stack
  was = has_stack good e.runs

  release : IsReleasable lists roots (flat s.groups) group
  release = ripe_releasable good e.runs e.ripe

  fresh : (v : ℕ) → Contains group v → HasMember s.groups v → ⊥
  fresh = ripe_fresh good e.runs e.ripe

  apart : (i v : ℕ) → Holds s.kept i v → Contains group v → ⊥
  apart = ripe_apart good e.runs e.ripe

  abbrev more : List (List ℕ)
  more = s.groups ++ e.appended.last ∷ []

  old_in : (v : ℕ) → Contains (flat s.groups) v → Contains (flat more) v
  old_in = more_old good.book release fresh apart e.woken e.appended.same_members e.appended.ascending

  new_in : (v : ℕ) → Contains group v → Contains (flat more) v
  new_in = more_new good.book release fresh apart e.woken e.appended.same_members e.appended.ascending

  book : IsGoodBook (record { lists = lists; roots = roots; given = 0; failed = false; kept = t.kept; groups = more })
  book =
      released_good good.book release fresh apart e.woken e.appended.same_members e.appended.ascending
      (woken_good e.woken old_in new_in good.book.kept_good)

  -- what is left is good
  stays : IsGood lists roots (flat more) false left
  stays =
      good_more (flat more) (left_good was.good e.ripe)
      (λ v has.
      elim (Contains-append_cases (flat s.groups) group v has) as (λ _. Contains (flat more) v)
      [ inl old ↦ old_in v old | inr newly ↦ new_in v newly ])

  abbrev old_value : ReleasedGroups
  old_value = record { count = length s.claimed; groups = s.groups }

  abbrev new_value : ReleasedGroups
  new_value = record { count = length t.claimed; groups = t.groups }

  -- the place has what is left, or is idle
  module _ {after : Option SearchValue} (sets : SetsAt s.running t.running place after)
      (here : (search : SearchValue) → after ≡ Some search → IsSettled lists roots more search)
      (nodes : (x : ℕ) → times x (nodes_of after) ≡ times x (nodes_on left)) where
    released : IsGoodState lists roots false (record s { running = t.running; kept = t.kept; groups = more })
    released =
        let plain : IsPlain good t.kept more sets e.runs.free = record {
          book = book;
          some = λ i one at.
              let before = was_kept e.woken i one at in
              omega (arith, good.some i before.before before.at, ap size before.stays.stack_is);
          ends = woken_ends e.woken good.ends;
          here = here;
          wants = λ i w one at wants.
              let before = was_kept e.woken i one at in
              good.wants i w before.before before.at (before.stays.wants w wants).0;
          grows = old_in;
          counted = λ x.
              let kept : times x (kept_nodes t.kept) ≡ times x (kept_nodes s.kept) = ap (times x) (woken_nodes e.woken) in
              let groups : times x (flat t.groups) ≡ times x (flat s.groups) + times x group =
              released_count x old_value new_value group e.appended in
              let these : times x (flat t.groups) ≡ times x (flat more) = ap (λ groups. times x (flat groups)) e.appended.groups in
              omega (arith, kept, groups, these, nodes x, was.counted x, below_counted e.stack (top e.stack) x);
        } in
        plain_good good t.kept more sets e.runs.free plain

  left_settled : (goes_on : GoesOn s.running t.running place left) → 0 < size left → (search : SearchValue) → Some goes_on.after ≡ Some search
      → IsSettled lists roots more search
  left_settled goes_on some search there =
      subst (IsSettled lists roots more) (some_is goes_on.after search there)
      (record {
        some = omega (arith, some, ap size goes_on.stack_is);
        wants_nothing = goes_on.wants_nothing;
        good = subst (IsGood lists roots (flat more) false) (sym goes_on.stack_is) stays;
      })

  pub release_keeps : IsGoodState lists roots false t
  release_keeps =
      let result : IsGoodState lists roots false (record s { running = t.running; kept = t.kept; groups = more }) =
      elim e.goes_on as (λ _. IsGoodState lists roots false (record s { running = t.running; kept = t.kept; groups = more })) [
        | inl (none, sets) ↦
            released sets (λ search there. absurd (none_is_not search None refl there)) (λ x. sym (empty_counted left x none))
        | inr (some, goes_on) ↦
            released goes_on.sets (left_settled goes_on some) (λ x. ap (λ stack. times x (nodes_on stack)) goes_on.stack_is)
      ] in
      subst (IsGoodState lists roots false) (sym e.only)
      (subst (λ groups. IsGoodState lists roots false (record s { running = t.running; kept = t.kept; groups = groups })) (sym e.appended.groups) result)
