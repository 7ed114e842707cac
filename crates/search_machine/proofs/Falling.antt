-- Each event leaves less work, so runs end.
use Rattle.std.proofs.Common.{◌≡◌, inl, inr, ℕ, zero, suc, ◌<◌, ◌≤◌, ◌+◌, false, true, List, [], ◌∷◌, length, get_or, set, Option, None, Some, refl, ap, ◌∙◌, sym, subst, arith}
use Rattle.std.proofs.lemmas.Bool.{cases_lt}
use Rattle.std.proofs.lemmas.List.{get_or_past}
use Rattle.std.proofs.lemmas.List.Elements.{All-contains}
use Rattle.std.specs.Prelude.{Contains, replicate}
use Rattle.list_laws.proofs.OneOrder.{in_first}
use Rattle.list_laws.specs.Counts.{total}
use Rattle.search_stack.specs.Stack.{Stack, top}
use Rattle.search_stack.specs.Search.{SearchValue, below_frame}
use Rattle.blocked_table.specs.Kept.{kept_at}
use Rattle.blocked_table.proofs.Chain.{none_is_not, place_within}
use Rattle.group_release.proofs.Beside.{last_below}
use Rattle.search_machine.specs.Events.{Asks, Begins, GoesBack, GoesOn, IsEvent, IsPlainEvent, skip, resume, back, pass, suspend, transfer, retreat, release, Opens, Passes, Releases, Resumes, Retreats, Runs, Skips, Suspends, Transfers, running_stack}
use Rattle.search_machine.specs.Runs.{IsRun, next_number, opening_state}
use Rattle.search_machine.specs.State.{State, IsClaimed, IsGoodState, waiting_at}
use Rattle.search_machine.proofs.Claiming.{written}
use Rattle.search_machine.proofs.Runs.{event_keeps}
use Rattle.search_machine.proofs.Turns.{HasBegun, has_begun}
use Rattle.search_machine.specs.Work.{opening_work, running_work, stack_work, unclaimed_work, waiting_work, work}
use Rattle.search_machine.proofs.MovedWork.{transfer_work}
use Rattle.search_machine.proofs.StackWork.{begun_work, below_work, lowered_work, pushed_work, retreated_work}
use Rattle.search_machine.proofs.StateWork.{added_work, claimed_work, set_work, taken_work, unmarked, waiting_changes, woken_work}

-- the place has a search with this stack
runs_work : {s : State} {place : ℕ} {stack : Stack} → Runs s place stack → running_work (kept_at s.running place) ≡ stack_work stack
runs_work {s} {place} {stack} runs = ap running_work runs.at ∙ sym (ap stack_work runs.stack_is)

-- an edge has begun
begins_work : {s : State} {place v : ℕ} {begun : Stack} → Begins s place v begun
    → stack_work begun + 3 ≡ running_work (kept_at s.running place)
begins_work {s} {place} {v} {begun} begins =
    let less : stack_work begun + 3 ≡ stack_work begins.stack =
    ap (λ stack. stack_work stack + 3) begins.is ∙ begun_work begins.stack v begins.next in
    omega (arith, less, runs_work begins.runs)

-- the place goes on with a stack
goes_work : {old new : List (Option SearchValue)} {place : ℕ} {stack : Stack} → GoesOn old new place stack
    → total running_work new + running_work (kept_at old place) ≡ total running_work old + stack_work stack
goes_work {old} {new} {place} {stack} goes_on =
    let here : stack_work goes_on.after.stack ≡ stack_work stack = ap stack_work goes_on.stack_is in
    omega (arith, set_work goes_on.sets, here)

module _ (lists : List (List ℕ)) {s t : State} {place : ℕ} where
  skip_falls : Skips s place t → work lists t < work lists s
  skip_falls e =
      let is : work lists t ≡ work lists (record s { to_come = t.to_come }) = ap (work lists) e.only in
      let one : length s.to_come ≡ length (e.root ∷ t.to_come) = ap length e.next in
      omega (arith, is, one)

  resume_falls : Resumes s place t → work lists t < work lists s
  resume_falls e =
      let is : work lists t ≡ work lists (record s { running = t.running; kept = t.kept }) = ap (work lists) e.only in
      let idle : running_work (kept_at s.running place) ≡ 0 = ap running_work e.idle.at in
      omega (arith, is, idle, goes_work e.goes_on, taken_work e.taken)

  back_falls : GoesBack s place t → work lists t < work lists s
  back_falls e =
      let is : work lists t ≡ work lists (record s { running = t.running }) = ap (work lists) e.only in
      omega (arith, is, begins_work e.begins, goes_work e.goes_on, lowered_work e.begun e.at)

  pass_falls : Passes s place t → work lists t < work lists s
  pass_falls e =
      let is : work lists t ≡ work lists (record s { running = t.running }) = ap (work lists) e.only in
      omega (arith, is, begins_work e.begins, goes_work e.goes_on)

  suspend_falls : Suspends s place t → work lists t < work lists s
  suspend_falls e =
      let is : work lists t ≡ work lists (record s { running = t.running; kept = t.kept }) = ap (work lists) e.only in
      let stack : stack_work e.search.stack ≡ stack_work e.begun = ap stack_work e.stack_is in
      omega (arith, is, begins_work e.begins, set_work e.leaves, added_work e.kept.1.1, stack)

  transfer_falls : Transfers s place t → work lists t < work lists s
  transfer_falls e =
      let is : work lists t ≡ work lists (record s { running = t.running; kept = t.kept }) = ap (work lists) e.only in
      let stack : stack_work e.search.stack ≡ stack_work e.begun = ap stack_work e.stack_is in
      omega (arith, is, begins_work e.begins, goes_work e.goes_on, transfer_work e.moved.1, stack)

  retreat_falls : Retreats s place t → work lists t < work lists s
  retreat_falls e =
      let is : work lists t ≡ work lists (record s { running = t.running }) = ap (work lists) e.only in
      omega (arith, is, runs_work e.runs, goes_work e.goes_on, retreated_work e.stack e.done)

  release_falls : Releases s place t → work lists t < work lists s
  release_falls e =
      let is : work lists t ≡ work lists (record s { running = t.running; kept = t.kept; groups = t.groups }) = ap (work lists) e.only in
      let left : Stack = below_frame e.stack (top e.stack) in
      let goes : total running_work t.running + running_work (kept_at s.running place) ≤ total running_work s.running + stack_work left =
      elim e.goes_on as
      (λ _. total running_work t.running + running_work (kept_at s.running place) ≤ total running_work s.running + stack_work left)
      [ inl (none, sets) ↦ omega (arith, set_work sets) | inr (some, goes_on) ↦ omega (arith, goes_work goes_on) ] in
      omega (arith, is, goes, runs_work e.runs, woken_work e.woken, below_work e.stack e.ripe.done)

  pub plain_falls : IsPlainEvent place s t → work lists t < work lists s
  plain_falls (skip e) = skip_falls e
  plain_falls (resume e) = resume_falls e
  plain_falls (back e) = back_falls e
  plain_falls (pass e) = pass_falls e
  plain_falls (suspend e) = suspend_falls e
  plain_falls (transfer e) = transfer_falls e
  plain_falls (retreat e) = retreat_falls e
  plain_falls (release e) = release_falls e

-- a node is claimed, and waited for
module _ {lists : List (List ℕ)} {roots : List ℕ} {s : State} (good : IsGoodState lists roots false s) where
  pub asks_below : {place v : ℕ} {t : State} → Asks s place v t → v < length lists
  asks_below {place} {v} {t} (inl e) =
      All-contains (λ root. root < length lists) roots v good.book.rooted
      (good.come v (subst (λ xs. Contains xs v) (sym e.next) (in_first v t.to_come)))
  asks_below {place} {v} {t} (inr e) =
      let begun : HasBegun good place v e.begun = has_begun good e.begins in
      last_below begun.has.good begun.last good.book.closed

  waits_work : (place v : ℕ) → waiting_at s place ≡ None → place < length s.running
      → total (waiting_work lists) (set s.waiting place (Some v)) ≡ total (waiting_work lists) s.waiting + opening_work (get_or lists v [])
  waits_work place v free within =
      let put = written s.waiting place (Some v) None (omega (arith, within, good.places)) in
      let sums = waiting_changes lists s.waiting (set s.waiting place (Some v)) place put.1 in
      let was : waiting_work lists (waiting_at s place) ≡ 0 = ap (waiting_work lists) free in
      let now : waiting_work lists (get_or (set s.waiting place (Some v)) place None) ≡ opening_work (get_or lists v []) =
      ap (waiting_work lists) put.0 in
      omega (arith, sums, was, now)

  marks_work : (v : ℕ) → v < length lists → (IsClaimed s v → ⊥)
      → unclaimed_work (set s.claimed v true) lists + opening_work (get_or lists v []) ≡ unclaimed_work s.claimed lists
  marks_work v below unclaimed = claimed_work s.claimed lists v good.counted below (unmarked (get_or s.claimed v false) unclaimed)

  asks_falls : {place v : ℕ} {t : State} → Asks s place v t → work lists t < work lists s
  asks_falls {place} {v} {t} (inl e) =
      let is : work lists t
      ≡ work lists (record s { to_come = t.to_come; claimed = set s.claimed v true; waiting = set s.waiting place (Some v) }) =
      ap (work lists) e.only in
      let one : length s.to_come ≡ length (v ∷ t.to_come) = ap length e.next in
      let waits : total (waiting_work lists) (set s.waiting place (Some v)) ≡ total (waiting_work lists) s.waiting + opening_work (get_or lists v []) =
      waits_work place v e.idle.free e.idle.within in
      omega (arith, is, one, waits, marks_work v (asks_below (inl e)) e.unclaimed)
  asks_falls {place} {v} {t} (inr e) =
      let is : work lists t
      ≡ work lists (record s { running = t.running; claimed = set s.claimed v true; waiting = set s.waiting place (Some v) }) =
      ap (work lists) e.only in
      let within : place < length s.running = place_within s.running place e.begins.runs.search e.begins.runs.at in
      let waits : total (waiting_work lists) (set s.waiting place (Some v)) ≡ total (waiting_work lists) s.waiting + opening_work (get_or lists v []) =
      waits_work place v e.begins.runs.free within in
      omega (arith, is, waits, marks_work v (asks_below (inr e)) e.unclaimed, begins_work e.begins, goes_work e.goes_on)

  -- the place waits for the node
  pub asks_waits : {place v : ℕ} {t : State} → Asks s place v t → waiting_at t place ≡ Some v
  asks_waits {place} {v} {t} (inl e) =
      ap (λ (state : State). waiting_at state place) e.only
      ∙ (written s.waiting place (Some v) None (omega (arith, e.idle.within, good.places))).0
  asks_waits {place} {v} {t} (inr e) =
      let within : place < length s.running = place_within s.running place e.begins.runs.search e.begins.runs.at in
      ap (λ (state : State). waiting_at state place) e.only
      ∙ (written s.waiting place (Some v) None (omega (arith, within, good.places))).0

-- and opened
stack_there : (o : Option SearchValue) → stack_work (running_stack o) ≡ running_work o
stack_there None = refl
stack_there (Some search) = refl

waiting_within : (s : State) (place v : ℕ) → waiting_at s place ≡ Some v → place < length s.waiting
waiting_within s place v waits =
    elim (cases_lt place (length s.waiting)) as (λ _. place < length s.waiting)
    [ inl lt ↦ lt | inr past ↦ absurd (none_is_not v (waiting_at s place) (get_or_past s.waiting place None past) waits) ]

opens_falls : {lists : List (List ℕ)} {s t : State} {place v : ℕ} → Opens lists s place v t
    → work lists t < work lists s
opens_falls {lists} {s} {t} {place} {v} e =
    let is : work lists t ≡ work lists (record s { running = t.running; waiting = set s.waiting place None }) = ap (work lists) e.only in
    let put = written s.waiting place None None (waiting_within s place v e.waits) in
    let sums = waiting_changes lists s.waiting (set s.waiting place None) place put.1 in
    let was : waiting_work lists (waiting_at s place) ≡ opening_work (get_or lists v []) = ap (waiting_work lists) e.waits in
    let now : waiting_work lists (get_or (set s.waiting place None) place None) ≡ 0 = ap (waiting_work lists) put.0 in
    let there : Option SearchValue = kept_at s.running place in
    omega (
      arith,
      is,
      sums,
      was,
      now,
      goes_work e.goes_on,
      pushed_work (running_stack there) v (get_or lists v []),
      stack_there there,
    )

pub event_falls : {lists : List (List ℕ)} {roots : List ℕ} {place : ℕ} {s t : State} → IsGoodState lists roots false s → IsEvent lists place s t
    → work lists t < work lists s
event_falls {lists} good (inl plain) = plain_falls lists plain
event_falls {lists} good (inr claims) =
    let first = asks_falls good claims.asks in
    let second = opens_falls claims.opens in
    omega (arith, first, second)

pub run_falls : (lists : List (List ℕ)) (roots : List ℕ) (states : List State) (x : ℕ) (s end : State) → IsGoodState lists roots false s
    → IsRun lists x s states end → length states + work lists end ≤ work lists s
run_falls lists roots [] x s end good run = let same : work lists s ≡ work lists end = ap (work lists) run in omega (arith, same)
run_falls lists roots (t ∷ ts) x s end good run =
    let first = event_falls good run.0.2 in
    let rest = run_falls lists roots ts (next_number x) t end (event_keeps good run.0.2) run.1 in
    omega (arith, first, rest)

-- in the opening state each node is to be opened and each root to come
nothing_at : {A : Type 0} (f : Option A → ℕ) → f None ≡ 0 → (places : ℕ) → total f (replicate places None) ≡ 0
nothing_at f none zero = refl
nothing_at f none (suc places) = let rest = nothing_at f none places in omega (arith, none, rest)

none_claimed : (lists : List (List ℕ)) → unclaimed_work (replicate (length lists) false) lists ≡ total opening_work lists
none_claimed [] = refl
none_claimed (list ∷ lists) = let rest = none_claimed lists in omega (arith, rest)

pub opening_is : (lists : List (List ℕ)) (roots : List ℕ) (places : ℕ)
    → work lists (opening_state (length lists) roots places) ≡ total opening_work lists + length roots
opening_is lists roots places =
    omega (
      arith,
      none_claimed lists,
      nothing_at (waiting_work lists) refl places,
      nothing_at running_work refl places,
    )
