-- A machine that fails keeps a good state.
use Rattle.std.proofs.Common.{◌≡◌, inl, inr, ℕ, Bool, true, false, List, Option, None, Some, refl, ap, ◌∙◌, sym, subst, arith, true≢false}
use Rattle.list_laws.specs.Counts.{times, flat}
use Rattle.search_stack.specs.Stack.{size}
use Rattle.search_stack.specs.GoodSearch.{IsGood}
use Rattle.search_stack.specs.Search.{SearchValue}
use Rattle.blocked_table.specs.Kept.{kept_at}
use Rattle.blocked_table.proofs.Chain.{none_is_not, some_is}
use Rattle.group_release.specs.Outline.{nodes_of, nodes_on}
use Rattle.search_machine.specs.Events.{SetsAt}
use Rattle.search_machine.specs.Machine.{Stops}
use Rattle.search_machine.specs.State.{State, IsGoodState, IsRunning, WaitsFor, times_standing, waiting_at}
use Rattle.search_machine.proofs.Good.{running_after, standing_change, waits_after}
use Rattle.search_machine.proofs.Turns.{HasBegun, has_begun}

-- what is good is good in a state that has failed
pub failed_runs : {lists : List (List ℕ)} {roots : List ℕ} {failed : Bool} {groups : List (List ℕ)} {waits : Option ℕ} {search : SearchValue}
    → IsRunning lists roots failed groups waits search → IsRunning lists roots true groups waits search
failed_runs is = record {
  some = is.some;
  wants_nothing = is.wants_nothing;
  opened = is.opened;
  is_open = λ sound. absurd (true≢false sound);
  waits_open = is.waits_open;
  good = is.good;
}

pub failed_keeps : {lists : List (List ℕ)} {roots : List ℕ} {failed : Bool} {s : State} → IsGoodState lists roots failed s → IsGoodState lists roots true s
failed_keeps good = record {
  counted = good.counted;
  places = good.places;
  book = good.book;
  some = good.some;
  ends = good.ends;
  running = λ i search at. failed_runs (good.running i search at);
  waits = good.waits;
  wants = good.wants;
  once = good.once;
  never = good.never;
  come = good.come;
  given = good.given;
}

-- the search at the place is another one with the same nodes
put_keeps : {lists : List (List ℕ)} {roots : List ℕ} {failed : Bool} {s : State} {place : ℕ} {after : Option SearchValue}
    {running : List (Option SearchValue)} → IsGoodState lists roots failed s → SetsAt s.running running place after
    → ((search : SearchValue) → after ≡ Some search → IsRunning lists roots failed s.groups (waiting_at s place) search)
    → ((v : ℕ) → waiting_at s place ≡ Some v → WaitsFor lists roots after v)
    → ((x : ℕ) → times x (nodes_of after) ≡ times x (nodes_of (kept_at s.running place)))
    → IsGoodState lists roots failed (record s { running = running })
put_keeps {lists} {roots} {failed} {s} {place} {after} {running} good sets here here_waits nodes =
    let t : State = record s { running = running } in
    let same : (v : ℕ) → times_standing t v ≡ times_standing s v = λ v.
    let sums = standing_change good t sets (λ i ne. refl) v in
    omega (arith, sums, nodes v) in
    record {
      counted = good.counted;
      places = good.places ∙ sym sets.counted;
      book = good.book;
      some = good.some;
      ends = good.ends;
      running = running_after good t sets (λ i ne. refl) (λ v has. has) here;
      waits = waits_after good t sets (λ i ne. refl) here_waits;
      wants = good.wants;
      once = λ v is. same v ∙ good.once v is;
      never = λ v isnt. same v ∙ good.never v isnt;
      come = good.come;
      given = good.given;
    }

pub stops_keep : {lists : List (List ℕ)} {roots : List ℕ} {s t : State} {place : ℕ} → IsGoodState lists roots false s → Stops s place t
    → IsGoodState lists roots true t
stops_keep {lists} {roots} {s} {t} {place} good e =
    subst (IsGoodState lists roots true) (sym e.only)
    (elim e.either as (λ _. IsGoodState lists roots true (record s { running = t.running })) [
      | inl sets ↦
          put_keeps (failed_keeps good) sets (λ search at. failed_runs (good.running place search at)) (good.waits place) (λ x. refl)
      | inr (v, begun, begins, goes_on) ↦
          let has : HasBegun good place v begun = has_begun good begins in
          let free : waiting_at s place ≡ None = begins.runs.free in
          let running : IsRunning lists roots true s.groups (waiting_at s place) goes_on.after = record {
            some = omega (arith, has.has.some, ap size goes_on.stack_is);
            wants_nothing = goes_on.wants_nothing;
            opened = true;
            is_open = λ sound. absurd (true≢false sound);
            waits_open = λ waits. refl;
            good = subst (IsGood lists roots (flat s.groups) true) (sym goes_on.stack_is) has.has.good;
          } in
          put_keeps (failed_keeps good) goes_on.sets
          (λ search is. subst (IsRunning lists roots true s.groups (waiting_at s place)) (some_is goes_on.after search is) running)
          (λ u waits. absurd (none_is_not u (waiting_at s place) free waits))
          (λ x. ap (λ stack. times x (nodes_on stack)) goes_on.stack_is ∙ has.has.counted x)
    ])
