-- A node that a place waits for is pushed there.
use Rattle.std.proofs.Common.{◌≡◌, ◌⊎◌, inl, inr, ℕ, ◌<◌, ◌≤◌, ◌^◌, Bool, true, List, [], ◌∷◌, length, map, get_or, set, drop, Option, None, Some, refl, ap, ◌∙◌, sym, subst, arith}
use Rattle.std.proofs.lemmas.List.{get_or_default}
use Rattle.std.specs.Prelude.{option_and_then}
use Rattle.list_laws.specs.Counts.{times, flat, total}
use Rattle.list_laws.proofs.Counting.{times_here}
use Rattle.list_laws.proofs.Standing.{times-flat-map}
use Rattle.search_stack.specs.Stack.{Stack, size}
use Rattle.search_stack.specs.Search.{SearchValue, IsLastBegun, IsOn, pushed}
use Rattle.search_stack.proofs.Shapes.{empty_size}
use Rattle.blocked_table.specs.Kept.{kept_at}
use Rattle.group_release.specs.Book.{BookValue}
use Rattle.group_release.specs.Outline.{listed}
use Rattle.group_release.proofs.Nodes.{on_counted}
use Rattle.group_release.proofs.OnceCounts.{one_of}
use Rattle.search_machine.specs.declared.machine.Machine.TheInside.{Inside}
use Rattle.search_machine.specs.Events.{Opens, running_stack}
use Rattle.search_machine.specs.MachineFields.{IsMachine, state_of, value_of}
use Rattle.search_machine.specs.State.{State, IsGoodState, waiting_at}
use Rattle.search_machine.proofs.Acting.{goes, put_same, puts_back}
use Rattle.search_machine.proofs.Claiming.{opens_keep, waits_within}
use Rattle.search_machine.proofs.Counts.{nodes_counted}
use Rattle.search_machine.proofs.Good.{at_most_once}
use Rattle.search_machine.proofs.Stopping.{failed_keeps}

-- a node that a place waits for is counted
waited_counted : (waiting : List (Option ℕ)) (place v : ℕ) → place < length waiting → get_or waiting place None ≡ Some v
    → 0 < times v (flat (map listed waiting))
waited_counted waiting place v lt is =
    let f : Option ℕ → ℕ = λ o. times v (listed o) in
    let least : f (get_or waiting place None) ≤ total f waiting = one_of f None waiting place lt in
    let here : f (get_or waiting place None) ≡ times v (v ∷ []) = ap f is in
    omega (arith, least, here, times_here v, times-flat-map v listed waiting)

-- so it is on no search, and the last edge of the search at the place leads to it
module _ {lists : List (List ℕ)} {roots : List ℕ} {failed : Bool} {s : State} (good : IsGoodState lists roots failed s) (place v : ℕ)
    (waits : waiting_at s place ≡ Some v) where
  pub off_there : (o : Option SearchValue) → kept_at s.running place ≡ o → IsOn (running_stack o) v → ⊥
  off_there None at on = omega (arith, on.within, empty_size)
  off_there (Some one) at on =
      let once = at_most_once good v in
      let own = on_counted one.stack v on in
      let here = nodes_counted s.running place v one at in
      let waited = waited_counted s.waiting place v (waits_within good place v waits) waits in
      omega (arith, once, own, here, waited)

  pub led_there : (o : Option SearchValue) → kept_at s.running place ≡ o → (size (running_stack o) ≡ 0) ⊎ IsLastBegun (running_stack o) v
  led_there None at = inl empty_size
  led_there (Some one) at = inr ((good.waits place v waits).last one at)

  pub wants_there : (o : Option SearchValue) → kept_at s.running place ≡ o → option_and_then (λ (search : SearchValue). search.wanted) o ≡ None
  wants_there None at = refl
  wants_there (Some one) at = (good.running place one at).wants_nothing

-- what is at a place that waits is taken out
pub record IsWaiting (fields : Inside) (place v : ℕ) (there : Option SearchValue) : Type 0 where
  pub is : IsMachine fields
  pub waits : waiting_at (state_of fields) place ≡ Some v
  pub within : place < length fields.running.items
  pub waits_in : place < length fields.waiting.items
  pub at : kept_at fields.running.items place ≡ there

pub waiting_place : {fields : Inside} {place v : ℕ} → IsMachine fields → waiting_at (state_of fields) place ≡ Some v
    → place < length fields.running.items
waiting_place {fields} {place} {v} is waits = let there = waits_within is.good place v waits in omega (arith, there, is.good.places)

pub waiting : {fields : Inside} {place v : ℕ} {now there : Option SearchValue} → IsMachine fields → waiting_at (state_of fields) place ≡ Some v
    → now ≡ get_or fields.running.items place now → there ≡ now → IsWaiting fields place v there
waiting {fields} {place} {v} {now} {there} is waits read took = record {
  is = is;
  waits = waits;
  within = waiting_place is waits;
  waits_in = waits_within is.good place v waits;
  at = get_or_default fields.running.items place None now (waiting_place is waits) ∙ sym read ∙ sym took;
}

module _ {fields : Inside} {place v : ℕ} {there : Option SearchValue} (is : IsWaiting fields place v there) where
  pub fresh : {stack : Stack} → stack ≡ running_stack there → IsOn stack v → ⊥
  fresh {stack} stack_is on = off_there is.is.good place v is.waits there is.at (subst (λ s. IsOn s v) stack_is on)

  pub led : {stack : Stack} → stack ≡ running_stack there → (size stack ≡ 0) ⊎ IsLastBegun stack v
  led {stack} stack_is =
      subst (λ s. (size s ≡ 0) ⊎ IsLastBegun s v) (sym stack_is) (led_there is.is.good place v is.waits there is.at)

  pub wants_none : {wanted : Option ℕ} → wanted ≡ option_and_then (λ (search : SearchValue). search.wanted) there → wanted ≡ None
  wants_none {wanted} wanted_is = wanted_is ∙ wants_there is.is.good place v is.waits there is.at

  -- the node is pushed
  pub opens_step : (gone : Option SearchValue) (before after : SearchValue) (list : List ℕ) → before.stack ≡ running_stack there
      → after.stack ≡ pushed before.stack v list → list ≡ get_or fields.book.lists v [] → after.wanted ≡ None
      → Opens fields.book.lists (state_of fields) place v
      (record (state_of fields) {
        running = set (set fields.running.items place gone) place (Some after);
        waiting = set fields.waiting.items place None;
      })
  opens_step gone before after list was pushed_is list_is wants_nothing =
      let stack_is : after.stack ≡ pushed (running_stack (kept_at fields.running.items place)) v (get_or fields.book.lists v []) =
      pushed_is ∙ ap (λ s. pushed s v list) (was ∙ ap running_stack (sym is.at)) ∙ ap (pushed (running_stack (kept_at fields.running.items place)) v) list_is in
      record {
        waits = is.waits;
        goes_on = goes (puts_back fields.running.items place gone (Some after) is.within) stack_is wants_nothing;
        only = refl;
      }

  pub opened_machine : (after : Inside) → after.book ≡ fields.book → Opens fields.book.lists (state_of fields) place v (state_of after) → IsMachine after
  opened_machine after book opens = record {
    good =
        subst (λ (value : BookValue). IsGoodState value.lists value.roots value.failed (state_of after)) (sym book) (opens_keep is.is.good opens);
    small = omega (arith, opens.goes_on.sets.counted, is.is.small);
  }

  -- or all comes back, and the machine has failed
  back_there : (gone back : Option SearchValue) → back ≡ there → set (set fields.running.items place gone) place back ≡ fields.running.items
  back_there gone back same = put_same fields.running.items place gone back is.within (is.at ∙ sym same)

  pub failed_state : (gone back : Option SearchValue) (book : BookValue) → back ≡ there → book ≡ record fields.book { failed = true }
      → record (state_of fields) {
        running = set (set fields.running.items place gone) place back;
        kept = book.kept;
        to_come = drop fields.given book.roots;
        groups = book.groups;
      } ≡ state_of fields
  failed_state gone back book same failed =
      let running = back_there gone back same in
      λ i. record (state_of fields) {
        running = running i;
        kept = (failed i).kept;
        to_come = drop fields.given (failed i).roots;
        groups = (failed i).groups;
      }

  pub failed_value : (gone back : Option SearchValue) (book : BookValue) → back ≡ there → book ≡ record fields.book { failed = true }
      → record {
        lists = book.lists;
        roots = book.roots;
        failed = book.failed;
        state =
            record (state_of fields) {
              running = set (set fields.running.items place gone) place back;
              kept = book.kept;
              to_come = drop fields.given book.roots;
              groups = book.groups;
            };
      } ≡ record (value_of fields) { failed = true }
  failed_value gone back book same failed =
      let state = failed_state gone back book same failed in
      λ i. record { lists = (failed i).lists; roots = (failed i).roots; failed = (failed i).failed; state = state i }

  pub back_machine : (after : Inside) → after.book ≡ record fields.book { failed = true } → state_of after ≡ state_of fields → IsMachine after
  back_machine after failed state = record {
    good =
        subst (λ (value : BookValue). IsGoodState value.lists value.roots value.failed (state_of after)) (sym failed)
        (subst (IsGoodState fields.book.lists fields.book.roots true) (sym state) (failed_keeps is.is.good));
    small = subst (λ (s : State). length s.running < 2 ^ 32) (sym state) is.is.small;
  }
