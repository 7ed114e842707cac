-- A place that can act has an event: it begins an edge, is done with its top, or takes what there is.
use Rattle.std.proofs.Common.{◌≡◌, inl, inr, ℕ, ◌<◌, ◌≤◌, true, false, List, [], ◌∷◌, ◌++◌, length, get_or, set, Option, None, Some, refl, ap, ◌∙◌, sym, arith, true≢false, get_or-set_same, get_or-set_other, length-set}
use Rattle.std.proofs.lemmas.Bool.{cases_Bool, cases_lt}
use Rattle.std.proofs.lemmas.Option.{slice_get-get_or}
use Rattle.std.specs.List.Sorted.{IsPermutation, IsStrictlyIncreasing}
use Rattle.std.specs.Prelude.{Contains, slice_index_or}
use Rattle.list_laws.specs.Counts.{flat}
use Rattle.graph_law.specs.Classes.{HasMember, group_at}
use Rattle.search_stack.specs.Stack.{Stack, IsShaped, size, top, begun as begun_at, succs, low, position, height}
use Rattle.search_stack.specs.Search.{SearchValue, IsDone, IsOn, IsRipe, below_frame, lowered, next_successor, nodes_from, one_more_begun, pushed, retreated}
use Rattle.search_stack.proofs.Frames.{position_within}
use Rattle.blocked_table.specs.Blocked.{HasReady, IsWoken}
use Rattle.blocked_table.specs.Kept.{kept_at}
use Rattle.blocked_table.proofs.Along.{IsOnTheWay}
use Rattle.blocked_table.proofs.Chain.{none_is_not, on_or_off, place_within}
use Rattle.blocked_table.proofs.MovedSteps.{way_of}
use Rattle.search_machine.specs.Events.{skip, resume, back, pass, suspend, transfer, retreat, release, Asks, Begins, GoesOn, GoesOnWith, IsEvent, IsIdle, IsOther, Runs, running_stack}
use Rattle.search_machine.specs.Runs.{HasMore}
use Rattle.search_machine.specs.State.{State, IsClaimed, IsGoodState, waiting_at}
use Rattle.search_machine.proofs.Acting.{goes, puts}
use Rattle.search_machine.proofs.Good.{table}
use Rattle.search_machine.proofs.Releasing.{ripe_new}
use Rattle.search_machine.proofs.Turns.{HasBegun, has_begun, has_stack}
use Rattle.laws.proofs.Carrying.{suspended}
use Rattle.laws.proofs.Choices.{Decided, found_or, in_or_out}
use Rattle.laws.proofs.SearchCuts.{frames_there}
use Rattle.laws.proofs.Sorting.{ascending_of}
use Rattle.laws.proofs.Waking.{woken_of}

abbrev pub HasEvent : List (List ℕ) → State → ℕ → Type 0
HasEvent lists s place = (t : State) × IsEvent lists place s t

-- a search that wants nothing
abbrev plain : Stack → SearchValue
plain stack = record { stack = stack; wanted = None; spare = 0 }

member_or : (groups : List (List ℕ)) (v : ℕ) → Decided (HasMember groups v)
member_or groups v = elim (found_or (λ i. Contains (group_at groups i) v) (λ i. in_or_out (group_at groups i) v) (length groups)) [
  | inl found ↦ inl (record { place = found.at; within = found.below; member = found.holds })
  | inr none ↦ inr (λ has. none has.place has.within has.member)
]

-- where there is no next successor all have begun
all_begun : (stack : Stack) → IsShaped stack → 0 < size stack → next_successor stack ≡ None → IsDone stack
unfolding next_successor
all_begun stack shaped some none =
    let there : 0 < height stack = frames_there stack shaped some in
    let i : ℕ = position stack (top stack) in
    let within : i < size stack = position_within shaped (top stack) (omega (arith, there)) in
    let upto : begun_at stack i ≤ length (succs stack i) = shaped.begun_le i within in
    elim (cases_lt (begun_at stack i) (length (succs stack i))) [
      | inl lt ↦
          let one : ℕ = get_or (succs stack i) (begun_at stack i) 0 in
          absurd (none_is_not one (next_successor stack) none (slice_get-get_or (succs stack i) (begun_at stack i) 0 lt))
      | inr past ↦ record { some = there; all = omega (arith, upto, past) }
    ]

module _ {lists : List (List ℕ)} {roots : List ℕ} {s : State} {place : ℕ} (good : IsGoodState lists roots false s)
    (within : place < length s.running) (free : waiting_at s place ≡ None) where
  abbrev put : SearchValue → List (Option SearchValue)
  put after = set s.running place (Some after)

  goes_on : (stack : Stack) → GoesOn s.running (put (plain stack)) place stack
  goes_on stack = goes (puts s.running place (Some (plain stack)) within) refl refl

  -- what was claimed is opened
  opens : (v : ℕ) (between : State) → Asks s place v between → place < length between.running → waiting_at between place ≡ Some v
      → HasEvent lists s place
  opens v between asks inside waits =
      let after : SearchValue = plain (pushed (running_stack (kept_at between.running place)) v (slice_index_or lists v [])) in
      let t : State = record between { running = set between.running place (Some after); waiting = set between.waiting place None } in (
        t,
        inr (record {
          v = v;
          between = between;
          asks = asks;
          opens = record { waits = waits; goes_on = goes (puts between.running place (Some after) inside) refl refl; only = refl };
        }),
      )

  waits_here : (v : ℕ) → get_or (set s.waiting place (Some v)) place None ≡ Some v
  waits_here v = get_or-set_same s.waiting place (Some v) None (omega (arith, within, good.places))

  -- a search at the place
  module _ (search : SearchValue) (at : kept_at s.running place ≡ Some search) where
    runs : Runs s place search.stack
    runs = record { search = search; at = at; stack_is = refl; free = free }

    abbrev begun : Stack
    begun = one_more_begun search.stack (position search.stack (top search.stack))

    module _ (v : ℕ) (next : next_successor search.stack ≡ Some v) where
      begins : Begins s place v begun
      begins = record { stack = search.stack; runs = runs; next = next; is = refl }

      claims : (IsClaimed s v → ⊥) → HasEvent lists s place
      claims unclaimed =
          let between : State =
          record s { running = put (plain begun); claimed = set s.claimed v true; waiting = set s.waiting place (Some v) } in
          opens v between
          (inr (record { begun = begun; begins = begins; unclaimed = unclaimed; goes_on = goes_on begun; only = refl }))
          (omega (arith, within, length-set s.running place (Some (plain begun)))) (waits_here v)

      goes_back : IsOn begun v → HasEvent lists s place
      goes_back on = (
        record s { running = put (plain (lowered begun on.place)) },
        inl (back (record {
          v = v;
          begun = begun;
          begins = begins;
          at = on.place;
          within = on.within;
          is = on.is;
          goes_on = goes_on (lowered begun on.place);
          only = refl;
        })),
      )

      passes : HasMember s.groups v → HasEvent lists s place
      passes released = (
        record s { running = put (plain begun) },
        inl (pass (record {
          v = v;
          begun = begun;
          begins = begins;
          released = released;
          goes_on = goes_on begun;
          only = refl;
        })),
      )

      way : IsOnTheWay lists roots (flat s.groups) s.kept begun v
      way =
          let is : HasBegun good place v begun = has_begun good begins in
          way_of (table good) (record { good = is.has.good; kept_good = good.book.kept_good }) is.last is.has.off_kept

      suspends : IsOther s begun v → HasEvent lists s place
      suspends other = elim (suspended s.kept (plain begun) v way) [
        | inl is ↦ (
          record s { running = set s.running place None; kept = is.new },
          inl (suspend (record {
            v = v;
            begun = begun;
            begins = begins;
            other = other;
            search = plain begun;
            stack_is = refl;
            kept = is.kept;
            leaves = puts s.running place None within;
            only = refl;
          })),
        )
        | inr is ↦ (
          record s { running = put is.after; kept = is.new },
          inl (transfer (record {
            v = v;
            begun = begun;
            begins = begins;
            other = other;
            search = plain begun;
            stack_is = refl;
            after = is.after;
            moved = is.moved;
            goes_on = goes (puts s.running place (Some is.after) within) refl is.moved.2;
            only = refl;
          })),
        )
      ]

      settles : IsClaimed s v → HasEvent lists s place
      settles claimed = elim (on_or_off begun v) [
        | inl on ↦ goes_back on
        | inr off ↦ elim (member_or s.groups v) [
          | inl released ↦ passes released
          | inr unreleased ↦ suspends (record { claimed = claimed; unreleased = unreleased; off = off })
        ]
      ]

      edge : HasEvent lists s place
      edge = elim (cases_Bool (get_or s.claimed v false)) [
        | inl claimed ↦ settles claimed
        | inr isnt ↦ claims (λ is. true≢false (sym is ∙ isnt))
      ]

    retreats : IsDone search.stack → low search.stack (top search.stack) < position search.stack (top search.stack) → HasEvent lists s place
    retreats done below = (
      record s { running = put (plain (retreated search.stack)) },
      inl (retreat (record {
        stack = search.stack;
        runs = runs;
        done = done;
        below = below;
        goes_on = goes_on (retreated search.stack);
        only = refl;
      })),
    )

    abbrev left : Stack
    left = below_frame search.stack (top search.stack)

    abbrev group : List ℕ
    group = nodes_from search.stack (top search.stack)

    goes_with : (running : List (Option SearchValue)) × GoesOnWith s.running running place left
    goes_with = elim (cases_lt 0 (size left)) [
      | inl some ↦ (put (plain left), inr (some, goes_on left))
      | inr none ↦ (set s.running place None, inl (omega (arith, none), puts s.running place None within))
    ]

    releases : IsRipe search.stack → HasEvent lists s place
    releases ripe =
        let last : (list : List ℕ) × IsPermutation group list × IsStrictlyIncreasing list = ascending_of group (ripe_new good runs ripe).distinct in
        let woken : (new : List (Option SearchValue)) × IsWoken group s.kept new = woken_of group s.kept in
        let going : (running : List (Option SearchValue)) × GoesOnWith s.running running place left = goes_with in
        let t : State = record s { running = going.0; kept = woken.0; groups = s.groups ++ last.0 ∷ [] } in (
          t,
          inl (release (record {
            stack = search.stack;
            runs = runs;
            ripe = ripe;
            appended = record { last = last.0; same_members = last.1; ascending = last.2; groups = refl; count = refl };
            woken = woken.1;
            goes_on = going.1;
            only = refl;
          })),
        )

    finishes : next_successor search.stack ≡ None → HasEvent lists s place
    finishes none =
        let has = has_stack good runs in
        let shaped : IsShaped search.stack = has.good.shaped in
        let done : IsDone search.stack = all_begun search.stack shaped has.some none in
        elim (cases_lt (low search.stack (top search.stack)) (position search.stack (top search.stack))) [
          | inl below ↦ retreats done below
          | inr le ↦
              let upto = shaped.low_le (top search.stack) (let some = done.some in omega (arith, some)) in
              releases (record { done = done; low_is = omega (arith, le, upto) })
        ]

    pub edge_by : (o : Option ℕ) → next_successor search.stack ≡ o → HasEvent lists s place
    edge_by None none = finishes none
    edge_by (Some v) next = edge v next

  -- none at the place
  module _ (at : kept_at s.running place ≡ None) where
    idle : IsIdle s place
    idle = record { within = within; at = at; free = free }

    resumes : (ready : HasReady s.kept) → HasEvent lists s place
    resumes ready =
        let i : ℕ = ready.place in
        let search : SearchValue = ready.ready.search in (
          record s { running = put search; kept = set s.kept i None },
          inl (resume (record {
            idle = idle;
            search = search;
            taken = record {
              place = i;
              at = ready.ready.at;
              wants_nothing = ready.ready.wants_nothing;
              each = length-set s.kept i None;
              vacant = get_or-set_same s.kept i None None (place_within s.kept i search ready.ready.at);
              same = λ j ne. get_or-set_other s.kept i j None None ne;
            };
            goes_on = goes (puts s.running place (Some search) within) refl ready.ready.wants_nothing;
            only = refl;
          })),
        )

    root_by : (HasReady s.kept → ⊥) → HasMore s → (to_come : List ℕ) → s.to_come ≡ to_come → HasEvent lists s place
    root_by none more [] is = elim more [
      | inl some ↦ absurd (omega (arith, some, ap length is))
      | inr ready ↦ absurd (none ready)
    ]
    root_by none more (root ∷ rest) is = elim (cases_Bool (get_or s.claimed root false)) [
      | inl claimed ↦
          (record s { to_come = rest }, inl (skip (record { idle = idle; none_ready = none; root = root; next = is; claimed = claimed; only = refl })))
      | inr isnt ↦
          let between : State = record s { to_come = rest; claimed = set s.claimed root true; waiting = set s.waiting place (Some root) } in
          opens root between
          (inl (record { idle = idle; none_ready = none; next = is; unclaimed = λ claimed. true≢false (sym claimed ∙ isnt); only = refl }))
          within (waits_here root)
    ]

    pub takes : Decided (HasReady s.kept) → HasMore s → HasEvent lists s place
    takes (inl ready) more = resumes ready
    takes (inr none) more = root_by none more s.to_come refl
