-- What each exit of an act makes of the state is an event.
use Rattle.std.proofs.Common.{◌≡◌, inl, inr, ℕ, zero, suc, ◌<◌, ◌+◌, Bool, true, false, List, ◌∷◌, length, get_or, set, drop, Option, None, Some, refl, ap, ◌∙◌, sym, subst, arith, true≢false}
use Rattle.std.proofs.lemmas.Bool.{cases_lt}
use Rattle.std.proofs.lemmas.List.{length-drop}
use Rattle.std.proofs.lemmas.List.Elements.{All-contains}
use Rattle.std.specs.List.Sorted.{IsPermutation}
use Rattle.list_laws.proofs.OneOrder.{in_first}
use Rattle.std.specs.Prelude.{Contains}
use Rattle.graph_law.specs.Classes.{HasMember}
use Rattle.search_stack.specs.Stack.{Stack, IsShaped, size, top, low, position}
use Rattle.search_stack.specs.Search.{SearchValue, IsDone, IsOn, IsRipe, below_frame, lowered, nodes_from, retreated}
use Rattle.search_stack.proofs.Driving.{mark_read}
use Rattle.blocked_table.specs.declared.suspended.Suspended.TheVariants.{Kept, Moved}
use Rattle.blocked_table.specs.Blocked.{HasReady, IsTaken, IsWoken}
use Rattle.blocked_table.proofs.EndSteps.{rest_drop}
use Rattle.blocked_table.specs.Suspending.{IsSuspended}
use Rattle.group_release.specs.Book.{BookValue, released_of}
use Rattle.group_release.specs.Released.{IsAppended}
use Rattle.search_machine.specs.declared.machine.Machine.TheInside.{Inside}
use Rattle.search_machine.specs.declared.step.Step.TheVariants.{Done, Open}
use Rattle.search_machine.specs.Events.{skip, resume, back, pass, suspend, transfer, retreat, release, Begins, GoesOn, GoesOnWith, IsIdle, IsOther, SetsAt}
use Rattle.search_machine.specs.Machine.{IsStep, MachineValue, Stops}
use Rattle.search_machine.specs.MachineFields.{IsMachine, state_of, value_of}
use Rattle.search_machine.specs.State.{State, IsClaimed, IsGoodState}
use Rattle.search_machine.specs.Runs.{HasMore}
use Rattle.search_machine.proofs.Acting.{IsOut, goes, out_runs, puts, puts_back, sound_good}

-- what isn't marked
pub unmarked_not : (marks : List Bool) (v : ℕ) → get_or marks v false ≡ false → get_or marks v false ≡ true → ⊥
unmarked_not marks v isnt is = true≢false (sym is ∙ isnt)

-- the search that was taken out of its place comes back with another stack
module _ (fields : Inside) (place : ℕ) {search : SearchValue} (out : IsOut fields place search) (gone : Option SearchValue) where
  abbrev s : State
  s = state_of fields

  abbrev pub with_search : SearchValue → List (Option SearchValue)
  with_search after = set (set fields.running.items place gone) place (Some after)

  goes_on : (after : SearchValue) {stack : Stack} → after.stack ≡ stack → after.wanted ≡ None → GoesOn s.running (with_search after) place stack
  goes_on after stack_is wants_nothing = goes (puts_back s.running place gone (Some after) out.within) stack_is wants_nothing

  pub claims_step : (v : ℕ) (after : SearchValue) → Begins s place v after.stack → after.wanted ≡ None → (IsClaimed s v → ⊥)
      → IsStep (Open v) place s
      (record s { running = with_search after; waiting = set fields.waiting.items place (Some v); claimed = set fields.claimed.items v true })
  claims_step v after begins wants_nothing unclaimed =
      inr (record { begun = after.stack; begins = begins; unclaimed = unclaimed; goes_on = goes_on after refl wants_nothing; only = refl })

  pub back_step : (v : ℕ) (mid after : SearchValue) → Begins s place v mid.stack → (on : IsOn mid.stack v) → after.stack ≡ lowered mid.stack on.place
      → after.wanted ≡ None → IsStep Done place s (record s { running = with_search after })
  back_step v mid after begins on lowered_is wants_nothing =
      back (record {
        v = v;
        begun = mid.stack;
        begins = begins;
        at = on.place;
        within = on.within;
        is = on.is;
        goes_on = goes_on after lowered_is wants_nothing;
        only = refl;
      })

  pub pass_step : (v : ℕ) (mid after : SearchValue) → Begins s place v mid.stack → HasMember s.groups v → after ≡ mid → after.wanted ≡ None
      → IsStep Done place s (record s { running = with_search after })
  pass_step v mid after begins released same wants_nothing =
      pass (record {
        v = v;
        begun = mid.stack;
        begins = begins;
        released = released;
        goes_on = goes_on after (ap (λ (value : SearchValue). value.stack) same) wants_nothing;
        only = refl;
      })

  -- the state where the book has other kept searches, and the graph and groups stay
  book_state : (running : List (Option SearchValue)) (book : BookValue) → book ≡ record fields.book { kept = book.kept }
      → record s { running = running; kept = book.kept; to_come = drop fields.given book.roots; groups = book.groups }
      ≡ record s { running = running; kept = book.kept }
  book_state running book only = λ i. record s {
    running = running;
    kept = book.kept;
    to_come = drop fields.given (only i).roots;
    groups = (only i).groups;
  }

  pub suspend_step : (v : ℕ) (mid leaving : SearchValue) (book : BookValue) → Begins s place v mid.stack → IsOther s mid.stack v → leaving ≡ mid
      → gone ≡ None → IsSuspended fields.book.kept book.kept leaving v Kept → book ≡ record fields.book { kept = book.kept }
      → IsStep Done place s
      (record s { running = set fields.running.items place gone; kept = book.kept; to_come = drop fields.given book.roots; groups = book.groups })
  suspend_step v mid leaving book begins other same gone_is kept only =
      let sets : SetsAt s.running (set s.running place gone) place gone = puts s.running place gone out.within in
      suspend (record {
        v = v;
        begun = mid.stack;
        begins = begins;
        other = other;
        search = leaving;
        stack_is = ap (λ (value : SearchValue). value.stack) same;
        kept = kept;
        leaves = record { counted = sets.counted; at = sets.at ∙ gone_is; same = sets.same };
        only = book_state (set s.running place gone) book only;
      })

  pub transfer_step : (v : ℕ) (mid leaving after : SearchValue) (book : BookValue) → Begins s place v mid.stack → IsOther s mid.stack v → leaving ≡ mid
      → IsSuspended fields.book.kept book.kept leaving v (Moved after) → book ≡ record fields.book { kept = book.kept }
      → IsStep Done place s
      (record s { running = with_search after; kept = book.kept; to_come = drop fields.given book.roots; groups = book.groups })
  transfer_step v mid leaving after book begins other same moved only =
      transfer (record {
        v = v;
        begun = mid.stack;
        begins = begins;
        other = other;
        search = leaving;
        stack_is = ap (λ (value : SearchValue). value.stack) same;
        after = after;
        moved = moved;
        goes_on = goes_on after refl moved.2;
        only = book_state (with_search after) book only;
      })

  -- the edge that has begun is left undecided
  pub begun_stops : (v : ℕ) (mid after : SearchValue) (book : BookValue) → Begins s place v mid.stack → after.stack ≡ mid.stack → after.wanted ≡ None
      → book ≡ record fields.book { failed = true }
      → Stops s place
      (record s { running = with_search after; kept = book.kept; to_come = drop fields.given book.roots; groups = book.groups })
  begun_stops v mid after book begins stack_is wants_nothing only = record {
    either = inr (v, mid.stack, begins, goes_on after stack_is wants_nothing);
    only = λ i. record s {
      running = with_search after;
      kept = (only i).kept;
      to_come = drop fields.given (only i).roots;
      groups = (only i).groups;
    };
  }

  -- nothing has changed
  pub same_stops : (after : SearchValue) (book : BookValue) → after ≡ search → book ≡ record fields.book { failed = true }
      → Stops s place
      (record s { running = with_search after; kept = book.kept; to_come = drop fields.given book.roots; groups = book.groups })
  same_stops after book same only =
      let sets : SetsAt s.running (with_search after) place (Some after) = puts_back s.running place gone (Some after) out.within in
      record {
        either =
            inl
            (record {
              counted = sets.counted;
              at = sets.at ∙ ap (λ (value : SearchValue). Some value) same ∙ sym out.at;
              same = sets.same;
            });
        only = λ i. record s {
          running = with_search after;
          kept = (only i).kept;
          to_come = drop fields.given (only i).roots;
          groups = (only i).groups;
        };
      }

  pub retreat_step : (after : SearchValue) → IsDone search.stack → low search.stack (top search.stack) < position search.stack (top search.stack)
      → after ≡ record search { stack = retreated search.stack } → search.wanted ≡ None
      → IsStep Done place s (record s { running = with_search after })
  retreat_step after done below is wants_nothing =
      retreat (record {
        stack = search.stack;
        runs = out_runs out;
        done = done;
        below = below;
        goes_on =
            goes_on after (ap (λ (value : SearchValue). value.stack) is) (ap (λ (value : SearchValue). value.wanted) is ∙ wants_nothing);
        only = refl;
      })

  -- a group is released, and the book is another one
  module _ (group : List ℕ) (book : BookValue) (ripe : IsRipe search.stack) (group_is : group ≡ nodes_from search.stack (top search.stack))
      (appended : IsAppended (released_of fields.book) group (released_of book)) (woken : IsWoken group fields.book.kept book.kept)
      (only : book ≡ record fields.book { kept = book.kept; groups = book.groups }) where
    release_by : (running : List (Option SearchValue)) → GoesOnWith s.running running place (below_frame search.stack (top search.stack))
        → IsStep Done place s
        (record s { running = running; kept = book.kept; to_come = drop fields.given book.roots; groups = book.groups })
    release_by running goes_on_with =
        release (record {
          stack = search.stack;
          runs = out_runs out;
          ripe = ripe;
          appended =
              record {
                last = appended.last;
                same_members = subst (λ these. IsPermutation these appended.last) group_is appended.same_members;
                ascending = appended.ascending;
                groups = appended.groups;
                count = refl;
              };
          woken = subst (λ these. IsWoken these fields.book.kept book.kept) group_is woken;
          goes_on = goes_on_with;
          only = λ i. record s { running = running; kept = book.kept; to_come = drop fields.given (only i).roots; groups = book.groups };
        })

    pub release_none : size (below_frame search.stack (top search.stack)) ≡ 0 → gone ≡ None
        → IsStep Done place s
        (record s { running = set fields.running.items place gone; kept = book.kept; to_come = drop fields.given book.roots; groups = book.groups })
    release_none none gone_is =
        let sets : SetsAt s.running (set s.running place gone) place gone = puts s.running place gone out.within in
        release_by (set fields.running.items place gone)
        (inl (none, record { counted = sets.counted; at = sets.at ∙ gone_is; same = sets.same }))

    pub release_some : (after : SearchValue) → (size after.stack ≡ 0 → ⊥)
        → after ≡ record search { stack = below_frame search.stack (top search.stack) } → search.wanted ≡ None
        → IsStep Done place s
        (record s { running = with_search after; kept = book.kept; to_come = drop fields.given book.roots; groups = book.groups })
    release_some after some is wants_nothing =
        let stack_is : after.stack ≡ below_frame search.stack (top search.stack) = ap (λ (value : SearchValue). value.stack) is in
        release_by (with_search after)
        (inr (
          size_some (size (below_frame search.stack (top search.stack))) (λ none. some (ap size stack_is ∙ none)),
          goes_on after stack_is (ap (λ (value : SearchValue). value.wanted) is ∙ wants_nothing),
        ))
      where
        size_some : (n : ℕ) → (n ≡ 0 → ⊥) → 0 < n
        size_some zero none = absurd (none refl)
        size_some (suc n) none = omega arith

-- a low that isn't the position is below it
pub below_of : {stack : Stack} → IsShaped stack → IsDone stack → (IsRipe stack → ⊥) → low stack (top stack) < position stack (top stack)
below_of {stack} shaped done unripe =
    elim (cases_lt (low stack (top stack)) (position stack (top stack))) as (λ _. low stack (top stack) < position stack (top stack)) [
      | inl lt ↦ lt
      | inr le ↦
          let low_le = shaped.low_le (top stack) (omega (arith, done.some)) in
          absurd (unripe (record { done = done; low_is = omega (arith, low_le, le) }))
    ]

-- an idle place
pub record IsStarting (fields : Inside) (place : ℕ) : Type 0 where
  pub sound : fields.book.failed ≡ false
  pub good : IsGoodState fields.book.lists fields.book.roots false (state_of fields)
  pub idle : IsIdle (state_of fields) place

pub starting : {fields : Inside} {now : MachineValue} {place : ℕ} → value_of fields ≡ now → IsMachine fields → now.failed ≡ false
    → IsIdle now.state place → IsStarting fields place
starting {fields} {now} {place} now_is is sound idle =
    let failed : fields.book.failed ≡ false = ap (λ (value : MachineValue). value.failed) now_is ∙ sound in
    record {
      sound = failed;
      good = sound_good is failed;
      idle = subst (λ (value : MachineValue). IsIdle value.state place) (sym now_is) idle;
    }

module _ {fields : Inside} {place : ℕ} (start : IsStarting fields place) (book : BookValue) where
  abbrev here : State
  here = state_of fields

  pub resume_step : (search : SearchValue) → IsTaken fields.book.kept book.kept search → book ≡ record fields.book { kept = book.kept }
      → IsStep Done place here
      (record here {
        running = set fields.running.items place (Some search);
        kept = book.kept;
        to_come = drop fields.given book.roots;
        groups = book.groups;
      })
  resume_step search taken only =
      resume (record {
        idle = start.idle;
        search = search;
        taken = taken;
        goes_on = goes (puts here.running place (Some search) start.idle.within) refl taken.wants_nothing;
        only = λ i. record here {
          running = set fields.running.items place (Some search);
          kept = book.kept;
          to_come = drop fields.given (only i).roots;
          groups = (only i).groups;
        };
      })

  -- the next root, as the book's list was read
  pub record HasRoot (read : List ℕ) : Type 0 where
    pub more : HasMore here
    pub none_ready : HasReady here.kept → ⊥
    pub same : book ≡ fields.book
    pub read_is : read ≡ book.roots

  pub has_root : {now : MachineValue} {read : List ℕ} → value_of fields ≡ now → HasMore now.state → (HasReady fields.book.kept → ⊥)
      → book ≡ fields.book → read ≡ book.roots → HasRoot read
  has_root {now} {read} now_is more none_ready same read_is =
      record {
        more = subst (λ (value : MachineValue). HasMore value.state) (sym now_is) more;
        none_ready = none_ready;
        same = same;
        read_is = read_is;
      }

  module _ {read : List ℕ} (next : HasRoot read) where
    abbrev pub root : ℕ
    root = get_or read fields.given 0

    next_root : here.to_come ≡ root ∷ drop (fields.given + 1) book.roots
    next_root =
        let roots_are : book.roots ≡ fields.book.roots = ap (λ (value : BookValue). value.roots) next.same in
        let within : fields.given < length fields.book.roots =
        elim next.more as (λ _. fields.given < length fields.book.roots)
        [ inl some ↦ omega (arith, some, length-drop fields.given fields.book.roots) | inr ready ↦ absurd (next.none_ready ready) ] in
        rest_drop fields.book.roots fields.given within
        ∙ (λ i. get_or ((sym roots_are ∙ sym next.read_is) i) fields.given 0 ∷ drop (fields.given + 1) (sym roots_are i))

    pub root_within : root < length fields.claimed.items
    root_within =
        let member : Contains fields.book.roots root =
        start.good.come root (subst (λ xs. Contains xs root) (sym next_root) (in_first root (drop (fields.given + 1) book.roots))) in
        let below : root < length fields.book.lists = All-contains (λ each. each < length fields.book.lists) fields.book.roots root start.good.book.rooted member in
        omega (arith, below, start.good.counted)

    pub skip_step : {mark : Bool} → mark ≡ get_or fields.claimed.items root mark → mark ≡ true
        → IsStep Done place here
        (record here { kept = book.kept; to_come = drop (fields.given + 1) book.roots; groups = book.groups })
    skip_step {mark} marked is =
        skip (record {
          idle = start.idle;
          none_ready = next.none_ready;
          root = root;
          next = next_root;
          claimed = mark_read fields.claimed.items root mark true root_within marked is;
          only = λ i. record here { kept = (next.same i).kept; to_come = drop (fields.given + 1) book.roots; groups = (next.same i).groups };
        })

    pub root_step : {mark : Bool} → mark ≡ get_or fields.claimed.items root mark → mark ≡ false
        → IsStep (Open root) place here
        (record here {
          waiting = set fields.waiting.items place (Some root);
          kept = book.kept;
          claimed = set fields.claimed.items root true;
          to_come = drop (fields.given + 1) book.roots;
          groups = book.groups;
        })
    root_step {mark} marked is =
        inl
        (record {
          idle = start.idle;
          none_ready = next.none_ready;
          next = next_root;
          unclaimed = unmarked_not fields.claimed.items root (mark_read fields.claimed.items root mark false root_within marked is);
          only = λ i. record here {
            waiting = set fields.waiting.items place (Some root);
            kept = (next.same i).kept;
            claimed = set fields.claimed.items root true;
            to_come = drop (fields.given + 1) book.roots;
            groups = (next.same i).groups;
          };
        })
