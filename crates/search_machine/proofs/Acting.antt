-- How the fields of a machine change as a place acts.
use Rattle.std.proofs.Common.{◌≡◌, ℕ, zero, suc, ◌<◌, Bool, true, false, List, [], ◌∷◌, length, get_or, set, drop, ◌^◌, Option, None, Some, is_some, true≢false, refl, ap, ◌∙◌, sym, subst, arith, get_or-set_same, get_or-set_other}
use Rattle.std.proofs.lemmas.List.{get_or_default, length-replicate, length-set}
use Rattle.std.specs.Prelude.{All, not, replicate}
use Rattle.graph_law.specs.Graph.{IsClosed}
use Rattle.search_stack.specs.Stack.{Stack, size, position, top}
use Rattle.search_stack.specs.Search.{SearchValue, IsDone, next_successor, one_more_begun}
use Rattle.blocked_table.specs.Kept.{kept_at}
use Rattle.blocked_table.proofs.Chain.{place_within, some_is}
use Rattle.group_release.specs.Book.{BookValue}
use Rattle.search_machine.specs.declared.machine.Machine.TheInside.{Inside}
use Rattle.search_machine.specs.declared.step.Step.{Step}
use Rattle.search_machine.specs.declared.step.Step.TheVariants.{Done, Open}
use Rattle.search_machine.specs.Events.{Begins, GoesOn, Runs, SetsAt}
use Rattle.search_machine.specs.Machine.{Acts, Fails, IsStep, Stays, Stops}
use Rattle.search_machine.specs.MachineFields.{IsMachine, state_of, value_of}
use Rattle.search_machine.specs.Runs.{opening_state}
use Rattle.search_machine.specs.State.{State, IsGoodState, waiting_at}
use Rattle.search_machine.proofs.Starting.{starts_good}
use Rattle.search_machine.proofs.Claiming.{asks_keep}
use Rattle.search_machine.proofs.Runs.{plain_keeps}
use Rattle.search_machine.proofs.Stopping.{failed_keeps, stops_keep}

-- a place is written, once or twice
pub puts : (xs : List (Option SearchValue)) (place : ℕ) (after : Option SearchValue) → place < length xs
    → SetsAt xs (set xs place after) place after
puts xs place after lt = record {
  counted = length-set xs place after;
  at = get_or-set_same xs place after None lt;
  same = λ i ne. get_or-set_other xs place i after None ne;
}

pub puts_back : (xs : List (Option SearchValue)) (place : ℕ) (gone after : Option SearchValue) → place < length xs
    → SetsAt xs (set (set xs place gone) place after) place after
puts_back xs place gone after lt = record {
  counted = length-set (set xs place gone) place after ∙ length-set xs place gone;
  at = get_or-set_same (set xs place gone) place after None (omega (arith, lt, length-set xs place gone));
  same = λ i ne. get_or-set_other (set xs place gone) place i after None ne ∙ get_or-set_other xs place i gone None ne;
}

pub put_same : (xs : List (Option SearchValue)) (place : ℕ) (left after : Option SearchValue) → place < length xs → get_or xs place None ≡ after
    → set (set xs place left) place after ≡ xs
put_same [] place left after lt is = absurd (omega (arith, lt))
put_same (x ∷ xs) zero left after lt is = ap (λ y. y ∷ xs) (sym is)
put_same (x ∷ xs) (suc place) left after lt is = ap (λ ys. x ∷ ys) (put_same xs place left after (omega (arith, lt)) is)

pub goes : {old new : List (Option SearchValue)} {place : ℕ} {after : SearchValue} {stack : Stack} → SetsAt old new place (Some after)
    → after.stack ≡ stack → after.wanted ≡ None → GoesOn old new place stack
goes {old} {new} {place} {after} sets stack_is wants_nothing =
    record { after = after; stack_is = stack_is; wants_nothing = wants_nothing; sets = sets }

-- the machine's search at the place is taken out
pub record IsOut (fields : Inside) (place : ℕ) (search : SearchValue) : Type 0 where
  pub good : IsGoodState fields.book.lists fields.book.roots false (state_of fields)
  pub at : kept_at fields.running.items place ≡ Some search
  pub free : waiting_at (state_of fields) place ≡ None
  pub within : place < length fields.running.items
  pub waits_within : place < length fields.waiting.items

pub sound_good : {fields : Inside} → IsMachine fields → fields.book.failed ≡ false
    → IsGoodState fields.book.lists fields.book.roots false (state_of fields)
sound_good {fields} is sound = subst (λ failed. IsGoodState fields.book.lists fields.book.roots failed (state_of fields)) sound is.good

pub out : {fields : Inside} {place : ℕ} {search : SearchValue} {now taken : Option SearchValue} {stack : Stack} → IsMachine fields
    → fields.book.failed ≡ false → Runs (state_of fields) place stack → now ≡ get_or fields.running.items place now → taken ≡ now
    → taken ≡ Some search → IsOut fields place search
out {fields} {place} {search} {now} {taken} {stack} is sound runs read took taken_is =
    let within : place < length fields.running.items = place_within fields.running.items place runs.search runs.at in
    record {
      good = sound_good is sound;
      at = get_or_default fields.running.items place None now within ∙ sym read ∙ sym took ∙ taken_is;
      free = runs.free;
      within = within;
      waits_within = omega (arith, within, is.good.places);
    }

pub out_runs : {fields : Inside} {place : ℕ} {search : SearchValue} → IsOut fields place search → Runs (state_of fields) place search.stack
out_runs {fields} {place} {search} is = record { search = search; at = is.at; stack_is = refl; free = is.free }

pub out_done : {fields : Inside} {place : ℕ} {search : SearchValue} {stack : Stack} → IsOut fields place search → Runs (state_of fields) place stack
    → IsDone stack → IsDone search.stack
out_done {fields} {place} {search} {stack} is runs done =
    subst IsDone (runs.stack_is ∙ ap (λ (value : SearchValue). value.stack) (some_is runs.search search (sym runs.at ∙ is.at))) done

pub out_some : {fields : Inside} {place : ℕ} {search : SearchValue} → IsOut fields place search → 0 < size search.stack
out_some {fields} {place} {search} is = (is.good.running place search is.at).some

pub out_wants : {fields : Inside} {place : ℕ} {search : SearchValue} → IsOut fields place search → search.wanted ≡ None
out_wants {fields} {place} {search} is = (is.good.running place search is.at).wants_nothing

pub out_begins : {fields : Inside} {place v : ℕ} {search after : SearchValue} {result : Option ℕ} → IsOut fields place search
    → result ≡ next_successor search.stack → result ≡ Some v
    → after ≡ record search { stack = one_more_begun search.stack (position search.stack (top search.stack)) }
    → Begins (state_of fields) place v after.stack
out_begins {fields} {place} {v} {search} {after} {result} is next some after_is = record {
  stack = search.stack;
  runs = out_runs is;
  next = sym next ∙ some;
  is = ap (λ (value : SearchValue). value.stack) after_is;
}

-- the book of the same graph, and as failed or not
pub record IsSameBook (old new : BookValue) : Type 0 where
  pub lists_are : new.lists ≡ old.lists
  pub roots_are : new.roots ≡ old.roots
  pub failed_is : new.failed ≡ old.failed

pub same_book : (book : BookValue) → IsSameBook book book
same_book book = record { lists_are = refl; roots_are = refl; failed_is = refl }

pub book_only : {old new : BookValue} (kept : List (Option SearchValue)) (groups : List (List ℕ)) → new ≡ record old { kept = kept; groups = groups }
    → IsSameBook old new
book_only kept groups only = record {
  lists_are = ap (λ (value : BookValue). value.lists) only;
  roots_are = ap (λ (value : BookValue). value.roots) only;
  failed_is = ap (λ (value : BookValue). value.failed) only;
}

pub book_is : {old new : BookValue} → new ≡ old → IsSameBook old new
book_is is = record {
  lists_are = ap (λ (value : BookValue). value.lists) is;
  roots_are = ap (λ (value : BookValue). value.roots) is;
  failed_is = ap (λ (value : BookValue). value.failed) is;
}

-- the book is marked as failed
pub failed_machine : (fields : Inside) (book : BookValue) → IsMachine fields → book ≡ record fields.book { failed = true }
    → IsMachine (record fields { book = book })
failed_machine fields book is same =
    subst (λ (value : BookValue). IsMachine (record fields { book = value })) (sym same)
    (record { good = failed_keeps is.good; small = is.small })

-- the same state again
pub same_machine : (fields after : Inside) → IsMachine fields → after.book ≡ fields.book → state_of after ≡ state_of fields → IsMachine after
same_machine fields after is book state = record {
  good =
      subst (λ (value : BookValue). IsGoodState value.lists value.roots value.failed (state_of after)) (sym book)
      (subst (IsGoodState fields.book.lists fields.book.roots fields.book.failed) (sym state) is.good);
  small = subst (λ (s : State). length s.running < 2 ^ 32) (sym state) is.small;
}

pub put_state : (fields : Inside) (place : ℕ) (search after : SearchValue) (gone : Option SearchValue) → IsOut fields place search → after ≡ search
    → record (state_of fields) { running = set (set fields.running.items place gone) place (Some after) } ≡ state_of fields
put_state fields place search after gone is same =
    let back : set (set fields.running.items place gone) place (Some after) ≡ fields.running.items =
    put_same fields.running.items place gone (Some after) is.within (is.at ∙ ap (λ (value : SearchValue). Some value) (sym same)) in
    ap (λ running. record (state_of fields) { running = running }) back

pub stays : (fields : Inside) {t : State} (place : ℕ) {search : SearchValue} → IsOut fields place search → IsDone search.stack
    → t ≡ state_of fields
    → Stays (value_of fields) (record { lists = fields.book.lists; roots = fields.book.roots; failed = fields.book.failed; state = t }) place
stays fields {t} place {search} is done state = record {
  stack = search.stack;
  runs = out_runs is;
  done = done;
  same = λ i. record { lists = fields.book.lists; roots = fields.book.roots; failed = fields.book.failed; state = state i };
}

-- an event, or the first half of a claim
step_keeps : {lists : List (List ℕ)} {roots : List ℕ} (step : Step) (place : ℕ) {s t : State} → IsGoodState lists roots false s
    → IsStep step place s t → IsGoodState lists roots false t
step_keeps Done place good event = plain_keeps good event
step_keeps (Open v) place good asks = asks_keep good asks

pub next_machine : (fields after : Inside) (place : ℕ) (step : Step) → IsMachine fields → fields.book.failed ≡ false
    → IsStep step place (state_of fields) (state_of after) → IsSameBook fields.book after.book
    → length after.running.items ≡ length fields.running.items → IsMachine after
next_machine fields after place step is sound event book long =
    let good : IsGoodState fields.book.lists fields.book.roots false (state_of after) = step_keeps step place (sound_good is sound) event in
    record {
      good =
          subst (λ failed. IsGoodState after.book.lists after.book.roots failed (state_of after)) (sym (book.failed_is ∙ sound))
          (subst (λ lists. IsGoodState lists after.book.roots false (state_of after)) (sym book.lists_are)
          (subst (λ roots. IsGoodState fields.book.lists roots false (state_of after)) (sym book.roots_are) good));
      small = omega (arith, long, is.small);
    }

pub next_acts : (fields : Inside) (book : BookValue) {t : State} (place : ℕ) (step : Step) → IsStep step place (state_of fields) t
    → IsSameBook fields.book book
    → Acts (value_of fields) (record { lists = book.lists; roots = book.roots; failed = book.failed; state = t }) step place
next_acts fields book {t} place step event same = record {
  is = event;
  only = λ i. record { lists = same.lists_are i; roots = same.roots_are i; failed = same.failed_is i; state = t };
}

-- want of memory
pub fails_machine : (fields after : Inside) (place : ℕ) → IsMachine fields → fields.book.failed ≡ false
    → Stops (state_of fields) place (state_of after) → after.book ≡ record fields.book { failed = true }
    → length after.running.items ≡ length fields.running.items → IsMachine after
fails_machine fields after place is sound stops book long =
    let good : IsGoodState fields.book.lists fields.book.roots true (state_of after) = stops_keep (sound_good is sound) stops in
    record {
      good = subst (λ (value : BookValue). IsGoodState value.lists value.roots value.failed (state_of after)) (sym book) good;
      small = omega (arith, long, is.small);
    }

pub fails : (fields : Inside) (book : BookValue) {t : State} (place : ℕ) → Stops (state_of fields) place t
    → book ≡ record fields.book { failed = true }
    → Fails (value_of fields) (record { lists = book.lists; roots = book.roots; failed = book.failed; state = t }) place
fails fields book {t} place stops is = record {
  stops = stops;
  only = λ i. record { lists = (is i).lists; roots = (is i).roots; failed = (is i).failed; state = t };
}

-- the place that has a search runs
runs_by : (fields : Inside) (place : ℕ) (there : Option SearchValue) → kept_at fields.running.items place ≡ there → is_some there ≡ true
    → waiting_at (state_of fields) place ≡ None → (stack : Stack) × Runs (state_of fields) place stack
runs_by fields place None at some free = absurd (true≢false (sym some))
runs_by fields place (Some search) at some free = (search.stack, record { search = search; at = at; stack_is = refl; free = free })

pub runs_there : (fields : Inside) (place : ℕ) (now : Option SearchValue) (none : Bool) → place < length fields.running.items
    → now ≡ get_or fields.running.items place now → is_some now ≡ not none → none ≡ false → waiting_at (state_of fields) place ≡ None
    → (stack : Stack) × Runs (state_of fields) place stack
runs_there fields place now none within read some isnt free =
    runs_by fields place now (get_or_default fields.running.items place None now within ∙ sym read) (some ∙ ap not isnt) free

-- a new machine
pub made_machine : (fields : Inside) (lists : List (List ℕ)) (roots : List ℕ) (count places : ℕ)
    → fields.book ≡ record { lists = lists; roots = roots; given = 0; failed = false; kept = []; groups = [] } → fields.given ≡ 0
    → fields.running.items ≡ replicate places None → fields.waiting.items ≡ replicate places None → fields.claimed.items ≡ replicate count false
    → count ≡ length lists → IsClosed lists → All (λ root. root < length lists) roots → places < 2 ^ 32 → IsMachine fields
made_machine fields lists roots count places book given running waiting claimed counted closed rooted small =
    let marks : fields.claimed.items ≡ replicate (length lists) false = claimed ∙ ap (λ n. replicate n false) counted in
    let long : length fields.running.items ≡ places = ap length running ∙ length-replicate places None in
    let state : state_of fields ≡ opening_state (length lists) roots places = λ i. record {
      running = running i;
      waiting = waiting i;
      kept = (book i).kept;
      claimed = marks i;
      to_come = drop (given i) (book i).roots;
      groups = (book i).groups;
    } in
    record {
      good =
          subst (λ (value : BookValue). IsGoodState value.lists value.roots value.failed (state_of fields)) (sym book)
          (subst (IsGoodState lists roots false) (sym state) (starts_good lists roots places closed rooted));
      small = omega (arith, small, long);
    }
