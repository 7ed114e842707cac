-- Events at a place that has a search, where only this search changes: they keep a good state.
use Rattle.std.proofs.Common.{◌≡◌, ℕ, ◌<◌, Bool, true, false, List, Option, None, Some, refl, ap, ◌∙◌, sym, subst, arith}
use Rattle.list_laws.specs.Counts.{times, flat}
use Rattle.list_laws.proofs.Counting.{counted}
use Rattle.graph_law.specs.Classes.{HasMember}
use Rattle.search_stack.specs.Stack.{Stack, size}
use Rattle.search_stack.specs.GoodSearch.{IsGood}
use Rattle.search_stack.specs.Search.{SearchValue, IsLastBegun, IsOn}
use Rattle.search_stack.proofs.Edges.{good_finished}
use Rattle.blocked_table.specs.Kept.{kept_at, Holds}
use Rattle.blocked_table.proofs.Chain.{some_is}
use Rattle.group_release.specs.Outline.{kept_nodes, nodes_of, nodes_on}
use Rattle.group_release.proofs.Nodes.{in_flat, on_counted}
use Rattle.search_machine.specs.Events.{Begins, GoesBack, GoesOn, Passes, Retreats, Runs}
use Rattle.search_machine.specs.State.{State, IsGoodState, waiting_at}
use Rattle.group_release.proofs.KeptCounts.{held_counted}
use Rattle.search_machine.proofs.Counts.{nodes_counted}
use Rattle.search_machine.proofs.Good.{IsPlain, IsSettled, at_most_once, plain_good, settled}
use Rattle.search_machine.proofs.Stacks.{back_counted, back_good, back_some, begun_counted, begun_good, begun_last, begun_some, retreat_counted, retreat_good, retreat_some}

-- a stack that the place has, or has where its top has begun an edge
pub record HasStack (lists : List (List ℕ)) (roots : List ℕ) (s : State) (place : ℕ) (opened : Bool) (stack : Stack) : Type 0 where
  pub some : 0 < size stack
  pub good : IsGood lists roots (flat s.groups) opened stack
  pub counted : (x : ℕ) → times x (nodes_on stack) ≡ times x (nodes_of (kept_at s.running place))
  pub off_kept : (i u : ℕ) → Holds s.kept i u → IsOn stack u → ⊥
  pub off_groups : (u : ℕ) → IsOn stack u → HasMember s.groups u → ⊥

module _ {lists : List (List ℕ)} {roots : List ℕ} {s : State} (good : IsGoodState lists roots false s) where
  has_counted : (place : ℕ) (search : SearchValue) (opened : Bool) (stack : Stack) → kept_at s.running place ≡ Some search → 0 < size stack
      → IsGood lists roots (flat s.groups) opened stack → ((x : ℕ) → times x (nodes_on stack) ≡ times x (nodes_on search.stack))
      → HasStack lists roots s place opened stack
  has_counted place search opened stack at some is same =
      let own : (u : ℕ) → IsOn stack u → 0 < times u (kept_nodes s.running) = λ u on.
      omega (arith, on_counted stack u on, same u, nodes_counted s.running place u search at) in
      record {
        some = some;
        good = is;
        counted = λ x. same x ∙ sym (ap (λ o. times x (nodes_of o)) at);
        off_kept = λ i u holds on.
            let once = at_most_once good u in
            let here = own u on in
            let other = held_counted s.kept i u holds in
            omega (arith, once, here, other);
        off_groups = λ u on has.
            let once = at_most_once good u in
            let here = own u on in
            let other = counted u (flat s.groups) (in_flat s.groups u has) in
            omega (arith, once, here, other);
      }

  pub has_stack : {place : ℕ} {stack : Stack} → Runs s place stack → HasStack lists roots s place false stack
  has_stack {place} {stack} runs =
      let is = good.running place runs.search runs.at in
      subst (HasStack lists roots s place false) (sym runs.stack_is)
      (has_counted place runs.search false runs.search.stack runs.at is.some (settled good place runs.search runs.at refl runs.free) (λ x. refl))

  -- the top has begun the edge
  pub record HasBegun (place v : ℕ) (begun : Stack) : Type 0 where
    pub has : HasStack lists roots s place true begun
    pub last : IsLastBegun begun v

  pub has_begun : {place v : ℕ} {begun : Stack} → Begins s place v begun → HasBegun place v begun
  has_begun {place} {v} {begun} begins =
      let was : HasStack lists roots s place false begins.stack = has_stack begins.runs in
      let search : SearchValue = begins.runs.search in
      let same : (x : ℕ) → times x (nodes_on begins.stack) ≡ times x (nodes_on search.stack) = λ x.
      ap (λ stack. times x (nodes_on stack)) begins.runs.stack_is in
      subst (HasBegun place v) (sym begins.is)
      (record {
        has =
            has_counted place search true _ begins.runs.at (begun_some was.good was.some begins.next) (begun_good was.good was.some begins.next)
            (λ x. begun_counted was.good was.some begins.next x ∙ same x);
        last = begun_last was.good was.some begins.next;
      })

  -- the search at the place goes on with the same nodes
  pub only_here : {place : ℕ} {running : List (Option SearchValue)} {stack : Stack} → waiting_at s place ≡ None
      → GoesOn s.running running place stack → 0 < size stack → IsGood lists roots (flat s.groups) false stack
      → ((x : ℕ) → times x (nodes_on stack) ≡ times x (nodes_of (kept_at s.running place)))
      → IsGoodState lists roots false (record s { running = running })
  only_here {place} {running} {stack} free goes_on some is same =
      let plain : IsPlain good s.kept s.groups goes_on.sets free = record {
        book = good.book;
        some = good.some;
        ends = good.ends;
        here = λ one at.
            subst (IsSettled lists roots s.groups) (some_is goes_on.after one at)
            (record {
              some = omega (arith, some, ap size goes_on.stack_is);
              wants_nothing = goes_on.wants_nothing;
              good = subst (IsGood lists roots (flat s.groups) false) (sym goes_on.stack_is) is;
            });
        wants = good.wants;
        grows = λ v has. has;
        counted = λ x.
            let here : times x (nodes_on goes_on.after.stack) ≡ times x (nodes_on stack) = ap (λ t. times x (nodes_on t)) goes_on.stack_is in
            omega (arith, here, same x);
      } in
      plain_good good s.kept s.groups goes_on.sets free plain

  pub back_keeps : {place : ℕ} {t : State} → GoesBack s place t → IsGoodState lists roots false t
  back_keeps {place} {t} e =
      let begun : HasBegun place e.v e.begun = has_begun e.begins in
      subst (IsGoodState lists roots false) (sym e.only)
      (only_here e.begins.runs.free e.goes_on (back_some begun.has.good begun.last e.at e.within e.is)
      (back_good begun.has.good begun.last e.at e.within e.is)
      (λ x. back_counted begun.has.good begun.last e.at e.within e.is x ∙ begun.has.counted x))

  pub pass_keeps : {place : ℕ} {t : State} → Passes s place t → IsGoodState lists roots false t
  pass_keeps {place} {t} e =
      let begun : HasBegun place e.v e.begun = has_begun e.begins in
      subst (IsGoodState lists roots false) (sym e.only)
      (only_here e.begins.runs.free e.goes_on begun.has.some (good_finished begun.has.good begun.last (in_flat s.groups e.v e.released))
      begun.has.counted)

  pub retreat_keeps : {place : ℕ} {t : State} → Retreats s place t → IsGoodState lists roots false t
  retreat_keeps {place} {t} e =
      let was : HasStack lists roots s place false e.stack = has_stack e.runs in
      subst (IsGoodState lists roots false) (sym e.only)
      (only_here e.runs.free e.goes_on (retreat_some was.good e.done e.below) (retreat_good was.good e.done e.below)
      (λ x. retreat_counted was.good e.done e.below x ∙ was.counted x))
