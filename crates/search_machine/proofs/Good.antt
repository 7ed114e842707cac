-- What a good state has, and what a change at one place keeps of it.
use Rattle.std.proofs.Common.{◌≡◌, ◌⊎◌, inl, inr, ℕ, ◌<◌, ◌≤◌, ◌+◌, Bool, false, List, length, get_or, Option, None, Some, is_some, refl, ap, ◌∙◌, sym, subst, arith, true≢false}
use Rattle.std.proofs.lemmas.Bool.{cases_Bool, cases_eq}
use Rattle.std.specs.Prelude.{Contains}
use Rattle.list_laws.specs.Counts.{times, flat}
use Rattle.graph_law.specs.Classes.{HasMember}
use Rattle.search_stack.specs.Stack.{size}
use Rattle.search_stack.specs.GoodSearch.{IsGood}
use Rattle.search_stack.specs.Search.{SearchValue, IsOn}
use Rattle.search_stack.proofs.Edges.{good_more}
use Rattle.blocked_table.specs.Blocked.{IsTable}
use Rattle.blocked_table.specs.Kept.{kept_at, Holds, AllEnd}
use Rattle.blocked_table.proofs.Chain.{none_is_not}
use Rattle.group_release.specs.Book.{IsGoodBook}
use Rattle.group_release.specs.Outline.{kept_nodes, listed, nodes_of}
use Rattle.group_release.proofs.Beside.{on_within}
use Rattle.group_release.proofs.KeptCounts.{held_counted, kept_change}
use Rattle.group_release.proofs.Nodes.{in_flat, on_counted}
use Rattle.list_laws.proofs.Counting.{counted}
use Rattle.search_machine.specs.Events.{SetsAt}
use Rattle.search_machine.specs.State.{State, IsClaimed, IsGoodState, IsRunning, WaitsFor, times_standing, waiting_at}
use Rattle.search_machine.proofs.Counts.{apart_counted, distinct_counted, nodes_counted, waiting_change}

module _ {lists : List (List ℕ)} {roots : List ℕ} {failed : Bool} {s : State} (good : IsGoodState lists roots failed s) where
  claimed_or_not : (v : ℕ) → IsClaimed s v ⊎ (IsClaimed s v → ⊥)
  claimed_or_not v =
      elim (cases_Bool (get_or s.claimed v false)) as (λ _. IsClaimed s v ⊎ (IsClaimed s v → ⊥))
      [ inl is ↦ inl is | inr isnt ↦ inr (λ is. true≢false (sym is ∙ isnt)) ]

  -- each node stands once at most, and where it stands it is claimed
  pub at_most_once : (v : ℕ) → times_standing s v ≤ 1
  at_most_once v =
      elim (claimed_or_not v) as (λ _. times_standing s v ≤ 1)
      [ inl is ↦ let one = good.once v is in omega (arith, one) | inr isnt ↦ let none = good.never v isnt in omega (arith, none) ]

  pub stands_claimed : (v : ℕ) → 0 < times_standing s v → IsClaimed s v
  stands_claimed v stands =
      elim (claimed_or_not v) as (λ _. IsClaimed s v)
      [ inl is ↦ is | inr isnt ↦ let none = good.never v isnt in absurd (omega (arith, none, stands)) ]

  pub kept_once : (v : ℕ) → times v (kept_nodes s.kept) ≤ 1
  kept_once v = let once = at_most_once v in omega (arith, once)

  -- the kept searches are a table
  pub table : IsTable (record { count = length lists; most = length s.kept; kept = s.kept })
  table = record {
    few = omega arith;
    each = λ place search at.
        record {
          some = good.some place search at;
          distinct = distinct_counted search.stack (λ v. omega (arith, kept_once v, nodes_counted s.kept place v search at));
        };
    below = λ place v holds.
        on_within lists roots good.book.closed good.book.rooted (good.book.kept_good place holds.search holds.at).good v holds.on;
    apart = apart_counted s.kept kept_once;
    ends = good.ends;
  }

  -- a search at a place shares no node with the kept ones and the groups
  module _ (place : ℕ) (search : SearchValue) (at : kept_at s.running place ≡ Some search) where
    own_counted : (v : ℕ) → IsOn search.stack v → 0 < times v (kept_nodes s.running)
    own_counted v on = omega (arith, on_counted search.stack v on, nodes_counted s.running place v search at)

    pub off_kept : (i v : ℕ) → Holds s.kept i v → IsOn search.stack v → ⊥
    off_kept i v holds on =
        let once = at_most_once v in
        let own = own_counted v on in
        let other = held_counted s.kept i v holds in
        omega (arith, once, own, other)

    pub off_groups : (v : ℕ) → IsOn search.stack v → HasMember s.groups v → ⊥
    off_groups v on has =
        let once = at_most_once v in
        let own = own_counted v on in
        let other = counted v (flat s.groups) (in_flat s.groups v has) in
        omega (arith, once, own, other)

    -- with nothing undecided, where the state hasn't failed and the place doesn't wait
    pub settled : failed ≡ false → waiting_at s place ≡ None → IsGood lists roots (flat s.groups) false search.stack
    settled sound free =
        let is = good.running place search at in
        subst (λ opened. IsGood lists roots (flat s.groups) opened search.stack) (is.is_open sound ∙ ap is_some free) is.good

-- one place has another search and waits for another node, other searches are kept, and more nodes are claimed or released
module _ {lists : List (List ℕ)} {roots : List ℕ} {failed : Bool} {s : State} (good : IsGoodState lists roots failed s) (t : State)
    {place : ℕ} {after : Option SearchValue} (sets : SetsAt s.running t.running place after)
    (same : (i : ℕ) → (i ≡ place → ⊥) → waiting_at t i ≡ waiting_at s i) where
  -- what the counts of the place and of the kept and released nodes add up to
  pub standing_change : (v : ℕ)
      → times_standing t v + (times v (nodes_of (kept_at s.running place)) + times v (listed (waiting_at s place))
      + (times v (kept_nodes s.kept) + times v (flat s.groups)))
      ≡ times_standing s v + (times v (nodes_of after) + times v (listed (waiting_at t place)) + (times v (kept_nodes t.kept) + times v (flat t.groups)))
  standing_change v =
      let runs = kept_change v s.running t.running place sets.same in
      let here : times v (nodes_of (kept_at t.running place)) ≡ times v (nodes_of after) = ap (λ o. times v (nodes_of o)) sets.at in
      let waits = waiting_change v s.waiting t.waiting place same in
      omega (arith, runs, here, waits)

  pub running_after : ((v : ℕ) → Contains (flat s.groups) v → Contains (flat t.groups) v)
      → ((search : SearchValue) → after ≡ Some search → IsRunning lists roots failed t.groups (waiting_at t place) search)
      → (i : ℕ) (search : SearchValue) → kept_at t.running i ≡ Some search → IsRunning lists roots failed t.groups (waiting_at t i) search
  running_after grows here i search at =
      elim (cases_eq i place) as (λ _. IsRunning lists roots failed t.groups (waiting_at t i) search) [
        | inl is ↦
            subst (λ k. IsRunning lists roots failed t.groups (waiting_at t k) search) (sym is)
            (here search (sym sets.at ∙ ap (kept_at t.running) (sym is) ∙ at))
        | inr ne ↦
            let was : IsRunning lists roots failed s.groups (waiting_at s i) search = good.running i search (sym (sets.same i ne) ∙ at) in
            subst (λ waits. IsRunning lists roots failed t.groups waits search) (sym (same i ne))
            (record {
              some = was.some;
              wants_nothing = was.wants_nothing;
              opened = was.opened;
              is_open = was.is_open;
              waits_open = was.waits_open;
              good = good_more (flat t.groups) was.good grows;
            })
      ]

  pub waits_after : ((v : ℕ) → waiting_at t place ≡ Some v → WaitsFor lists roots after v)
      → (i v : ℕ) → waiting_at t i ≡ Some v → WaitsFor lists roots (kept_at t.running i) v
  waits_after here i v waits =
      elim (cases_eq i place) as (λ _. WaitsFor lists roots (kept_at t.running i) v) [
        | inl is ↦
            subst (λ k. WaitsFor lists roots (kept_at t.running k) v) (sym is)
            (subst (λ o. WaitsFor lists roots o v) (sym sets.at) (here v (ap (waiting_at t) (sym is) ∙ waits)))
        | inr ne ↦ subst (λ o. WaitsFor lists roots o v) (sym (sets.same i ne)) (good.waits i v (sym (same i ne) ∙ waits))
      ]

-- the search at the place, with nothing undecided
pub record IsSettled (lists : List (List ℕ)) (roots : List ℕ) (groups : List (List ℕ)) (search : SearchValue) : Type 0 where
  pub some : 0 < size search.stack
  pub wants_nothing : search.wanted ≡ None
  pub good : IsGood lists roots (flat groups) false search.stack

pub runs_settled : {lists : List (List ℕ)} {roots : List ℕ} {failed : Bool} {groups : List (List ℕ)} {waits : Option ℕ} {search : SearchValue}
    → IsSettled lists roots groups search → waits ≡ None → IsRunning lists roots failed groups waits search
runs_settled is free = record {
  some = is.some;
  wants_nothing = is.wants_nothing;
  opened = false;
  is_open = λ sound. sym (ap is_some free);
  waits_open = λ waiting. absurd (true≢false (sym waiting ∙ ap is_some free));
  good = is.good;
}

-- a place that doesn't wait has another search, and other searches are kept and groups released, and no node is claimed
module _ {lists : List (List ℕ)} {roots : List ℕ} {failed : Bool} {s : State} (good : IsGoodState lists roots failed s) {place : ℕ}
    {after : Option SearchValue} {running : List (Option SearchValue)} (kept : List (Option SearchValue)) (groups : List (List ℕ)) (sets : SetsAt s.running running place after)
    (free : waiting_at s place ≡ None) where
  -- what is to be shown then
  pub record IsPlain : Type 0 where
    pub book : IsGoodBook (record { lists = lists; roots = roots; given = 0; failed = false; kept = kept; groups = groups })
    pub some : (i : ℕ) (search : SearchValue) → kept_at kept i ≡ Some search → 0 < size search.stack
    pub ends : AllEnd kept
    pub here : (search : SearchValue) → after ≡ Some search → IsSettled lists roots groups search
    pub wants : (i w : ℕ) (search : SearchValue) → kept_at kept i ≡ Some search → search.wanted ≡ Some w → IsClaimed s w
    pub grows : (v : ℕ) → Contains (flat s.groups) v → Contains (flat groups) v
    pub counted : (v : ℕ) → times v (nodes_of after) + (times v (kept_nodes kept) + times v (flat groups))
        ≡ times v (nodes_of (kept_at s.running place)) + (times v (kept_nodes s.kept) + times v (flat s.groups))

  abbrev changed : State
  changed = record s { running = running; kept = kept; groups = groups }

  standing_same : IsPlain → (v : ℕ) → times_standing changed v ≡ times_standing s v
  standing_same plain v =
      let sums = standing_change good changed sets (λ i ne. refl) v in
      let these = plain.counted v in
      omega (arith, sums, these)

  pub plain_good : IsPlain → IsGoodState lists roots failed changed
  plain_good plain = record {
    counted = good.counted;
    places = good.places ∙ sym sets.counted;
    book = plain.book;
    some = plain.some;
    ends = plain.ends;
    running = running_after good changed sets (λ i ne. refl) plain.grows (λ search is. runs_settled (plain.here search is) free);
    waits = waits_after good changed sets (λ i ne. refl) (λ v waits. absurd (none_is_not v (waiting_at s place) free waits));
    wants = plain.wants;
    once = λ v is. standing_same plain v ∙ good.once v is;
    never = λ v isnt. standing_same plain v ∙ good.never v isnt;
    come = good.come;
    given = good.given;
  }
