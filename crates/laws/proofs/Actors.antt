-- The places that can act, and that each of them has an event.
use Rattle.std.proofs.Common.{◌≡◌, inl, inr, ℕ, zero, suc, ◌<◌, ◌+◌, false, List, [], ◌∷◌, ◌++◌, length, Option, None, Some, refl, ap, ◌∙◌, sym, subst, arith}
use Rattle.std.proofs.lemmas.Bool.{cases_lt}
use Rattle.search_stack.specs.Search.{SearchValue}
use Rattle.blocked_table.specs.Blocked.{HasReady, IsReadyAt}
use Rattle.blocked_table.specs.Kept.{kept_at}
use Rattle.blocked_table.proofs.Chain.{none_is_not, place_within, some_is}
use Rattle.search_machine.specs.Runs.{AreActors, CanAct, HasMore}
use Rattle.search_machine.specs.State.{State, IsGoodState, waiting_at}
use Rattle.search_machine.proofs.Driving.{AreActorsBelow, all_actors, none_below, one_more, passed_over}
use Rattle.laws.proofs.Choices.{Decided, found_or}
use Rattle.laws.proofs.Turning.{HasEvent, edge_by, takes}

-- a kept search is ready or not

wants_by : (kept : List (Option SearchValue)) (i : ℕ) (search : SearchValue) → kept_at kept i ≡ Some search → (o : Option ℕ) → search.wanted ≡ o
    → Decided (IsReadyAt kept i)
wants_by kept i search at None is = inl (record { search = search; at = at; wants_nothing = is })
wants_by kept i search at (Some w) is = inr (λ ready.
    let same : ready.search ≡ search = some_is ready.search search (sym ready.at ∙ at) in
    none_is_not w ready.search.wanted ready.wants_nothing (ap (λ (value : SearchValue). value.wanted) same ∙ is))

ready_by : (kept : List (Option SearchValue)) (i : ℕ) (o : Option SearchValue) → kept_at kept i ≡ o → Decided (IsReadyAt kept i)
ready_by kept i None at = inr (λ ready. none_is_not ready.search (kept_at kept i) at ready.at)
ready_by kept i (Some search) at = wants_by kept i search at search.wanted refl

ready_or : (kept : List (Option SearchValue)) → Decided (HasReady kept)
ready_or kept = elim (found_or (IsReadyAt kept) (λ i. ready_by kept i (kept_at kept i) refl) (length kept)) [
  | inl found ↦ inl (record { place = found.at; ready = found.holds })
  | inr none ↦ inr (λ has. none has.place (place_within kept has.place has.ready.search has.ready.at) has.ready)
]

more_or : (s : State) → Decided (HasMore s)
more_or s = elim (cases_lt 0 (length s.to_come)) [
  | inl some ↦ inl (inl some)
  | inr past ↦ elim (ready_or s.kept) [
    | inl ready ↦ inl (inr ready)
    | inr none ↦ inr (λ more. elim more [ inl some ↦ omega (arith, some, past) | inr ready ↦ none ready ])
  ]
]

-- a place can act or not

has_by : (s : State) (place : ℕ) → place < length s.running → waiting_at s place ≡ None → (o : Option SearchValue) → kept_at s.running place ≡ o
    → Decided (CanAct s place)
has_by s place within free (Some search) at =
    inl (record { within = within; free = free; has = inl (λ none. none_is_not search (kept_at s.running place) none at) })
has_by s place within free None at = elim (more_or s) [
  | inl more ↦ inl (record { within = within; free = free; has = inr more })
  | inr none ↦ inr (λ can. elim can.has [ inl some ↦ some at | inr more ↦ none more ])
]

waits_by : (s : State) (place : ℕ) → place < length s.running → (o : Option ℕ) → waiting_at s place ≡ o → Decided (CanAct s place)
waits_by s place within (Some w) is = inr (λ can. none_is_not w (waiting_at s place) can.free is)
waits_by s place within None is = has_by s place within is (kept_at s.running place) refl

can_or : (s : State) (place : ℕ) → Decided (CanAct s place)
can_or s place = elim (cases_lt place (length s.running)) [
  | inl within ↦ waits_by s place within (waiting_at s place) refl
  | inr past ↦ inr (λ can. (let within = can.within in omega (arith, within, past)))
]

actors_below : (s : State) (bound : ℕ) → (places : List ℕ) × AreActorsBelow s bound places
actors_below s zero = ([], none_below s)
actors_below s (suc n) =
    let before : (places : List ℕ) × AreActorsBelow s n places = actors_below s n in
    let is : n + 1 ≡ suc n = omega arith in
    elim (can_or s n) [
      | inl can ↦ (before.0 ++ n ∷ [], subst (λ bound. AreActorsBelow s bound (before.0 ++ n ∷ [])) is (one_more before.1 can))
      | inr cannot ↦ (before.0, subst (λ bound. AreActorsBelow s bound before.0) is (passed_over before.1 cannot))
    ]

pub actors_of : (s : State) → (places : List ℕ) × AreActors s places
actors_of s =
    let all : (places : List ℕ) × AreActorsBelow s (length s.running) places = actors_below s (length s.running) in
    (all.0, all_actors all.1)

event_by : {lists : List (List ℕ)} {roots : List ℕ} {s : State} {place : ℕ} → IsGoodState lists roots false s → CanAct s place
    → (o : Option SearchValue) → kept_at s.running place ≡ o → HasEvent lists s place
event_by {lists} {roots} {s} {place} good can (Some search) at = edge_by good can.within can.free search at _ refl
event_by {lists} {roots} {s} {place} good can None at = elim can.has [
  | inl some ↦ absurd (some at)
  | inr more ↦ takes good can.within can.free at (ready_or s.kept) more
]

pub event_of : {lists : List (List ℕ)} {roots : List ℕ} {s : State} {place : ℕ} → IsGoodState lists roots false s → CanAct s place
    → HasEvent lists s place
event_of {lists} {roots} {s} {place} good can = event_by good can (kept_at s.running place) refl
