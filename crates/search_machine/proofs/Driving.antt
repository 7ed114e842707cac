-- Turns by the schedule, one after another, and the places that can act.
use Rattle.std.proofs.Common.{◌≡◌, inl, inr, ℕ, ◌<◌, ◌+◌, ◌%◌, false, List, [], ◌∷◌, ◌++◌, length, get_or, Some, refl, ap, ◌∙◌, sym, subst, arith}
use Rattle.std.proofs.lemmas.Bool.{cases_eq}
use Rattle.std.proofs.lemmas.List.Elements.{All-from_get_or, Contains-append_left, Contains-get_or, Contains-push, Contains-push_cases}
use Rattle.std.proofs.lemmas.Option.{get_or_from_slice_get, slice_get_within}
use Rattle.std.specs.Prelude.{Contains, slice_get}
use Rattle.std.specs.List.Sorted.{IsStrictlyIncreasing}
use Rattle.list_laws.proofs.OneOrder.{nothing_in}
use Rattle.graph_law.specs.Graph.{IsClosed}
use Rattle.graph_law.proofs.Increasing.{increasing_push}
use Rattle.search_machine.specs.Events.{Asks, IsEvent, Opens}
use Rattle.search_machine.specs.Machine.{MachineValue}
use Rattle.search_machine.specs.Runs.{AreActors, CanAct, IsRun, Picks, drawn, next_number, opening_state}
use Rattle.search_machine.specs.State.{State, IsGoodState}
use Rattle.search_machine.specs.Schedule.{IsScheduled}
use Rattle.search_machine.specs.Work.{work}
use Rattle.search_machine.proofs.Falling.{event_falls}

-- these are the places below a bound that can act, ascending
pub record AreActorsBelow (s : State) (bound : ℕ) (places : List ℕ) : Type 0 where
  pub ascending : IsStrictlyIncreasing places
  pub can : (place : ℕ) → Contains places place → CanAct s place
  pub below : (place : ℕ) → Contains places place → place < bound
  pub all : (place : ℕ) → place < bound → CanAct s place → Contains places place

pub none_below : (s : State) → AreActorsBelow s 0 []
none_below s = record {
  ascending = λ k lt. absurd (omega (arith, lt));
  can = λ place has. absurd (nothing_in place has);
  below = λ place has. absurd (nothing_in place has);
  all = λ place lt can. absurd (omega (arith, lt));
}

pub passed_over : {s : State} {bound : ℕ} {places : List ℕ} → AreActorsBelow s bound places → (CanAct s bound → ⊥)
    → AreActorsBelow s (bound + 1) places
passed_over {s} {bound} {places} are isnt = record {
  ascending = are.ascending;
  can = are.can;
  below = λ place has. let lt = are.below place has in omega (arith, lt);
  all = λ place lt can.
      elim (cases_eq place bound) as (λ _. Contains places place)
      [ inl is ↦ absurd (isnt (subst (CanAct s) is can)) | inr ne ↦ are.all place (omega (arith, lt, ne)) can ];
}

pub one_more : {s : State} {bound : ℕ} {places : List ℕ} → AreActorsBelow s bound places → CanAct s bound
    → AreActorsBelow s (bound + 1) (places ++ bound ∷ [])
one_more {s} {bound} {places} are can = record {
  ascending = increasing_push places bound are.ascending
      (All-from_get_or (λ y. y < bound) places 0 (λ k lt. are.below (get_or places k 0) (Contains-get_or places k 0 lt)));
  can = λ place has.
      elim (Contains-push_cases places bound place has) as (λ _. CanAct s place)
      [ inl old ↦ are.can place old | inr is ↦ subst (CanAct s) is can ];
  below = λ place has.
      elim (Contains-push_cases places bound place has) as (λ _. place < bound + 1)
      [ inl old ↦ (let lt = are.below place old in omega (arith, lt)) | inr is ↦ omega (arith, is) ];
  all = λ place lt able.
      elim (cases_eq place bound) as (λ _. Contains (places ++ bound ∷ []) place) [
        | inl is ↦ subst (Contains (places ++ bound ∷ [])) (sym is) (Contains-push places bound)
        | inr ne ↦ Contains-append_left places (bound ∷ []) place (are.all place (omega (arith, lt, ne)) able)
      ];
}

pub all_actors : {s : State} {places : List ℕ} → AreActorsBelow s (length s.running) places → AreActors s places
all_actors {s} {places} are = record {
  ascending = are.ascending;
  can = are.can;
  all = λ place able. are.all place able.within able;
}

-- the number after a run
abbrev pub number_of : ℕ → List State → ℕ
number_of x [] = x
number_of x (t ∷ ts) = number_of (next_number x) ts

run_more : (lists : List (List ℕ)) (states : List State) (x : ℕ) (s mid t : State) (place : ℕ) → IsRun lists x s states mid
    → Picks mid (next_number (number_of x states)) place → IsEvent lists place mid t → IsRun lists x s (states ++ t ∷ []) t
run_more lists [] x s mid t place run picks event =
    subst (λ from. IsRun lists x from (t ∷ []) t) (sym run) ((place, picks, event), refl)
run_more lists (u ∷ us) x s mid t place run picks event = (run.0, run_more lists us (next_number x) u mid t place run.1 picks event)

number_more : (states : List State) (x : ℕ) (t : State) → number_of x (states ++ t ∷ []) ≡ next_number (number_of x states)
number_more [] x t = refl
number_more (u ∷ us) x t = number_more us (next_number x) t

-- the machine has run to its state, and this is the last number
pub record IsDriven (lists : List (List ℕ)) (roots : List ℕ) (searches seed number : ℕ) (machine : MachineValue) : Type 0 where
  pub lists_are : machine.lists ≡ lists
  pub sound : machine.failed ≡ false
  pub states : List State
  pub run : IsRun lists seed (opening_state (length lists) roots searches) states machine.state
  pub number_is : number ≡ number_of seed states

module _ {lists : List (List ℕ)} {roots : List ℕ} {searches seed number : ℕ} {machine : MachineValue}
    (driven : IsDriven lists roots searches seed number machine) where
  pub next_driven : (next place : ℕ) (places : List ℕ) (after : MachineValue) → next ≡ next_number number → AreActors machine.state places
      → 0 < length places → slice_get places (drawn next % length places) ≡ Some place → IsEvent lists place machine.state after.state
      → after ≡ record machine { state = after.state } → IsDriven lists roots searches seed next after
  next_driven next place places after next_is actors some picked event only =
      let number_is : next ≡ next_number (number_of seed driven.states) = next_is ∙ ap next_number driven.number_is in
      let picks : Picks machine.state next place = record { places = places; actors = actors; some = some; picked = picked } in
      record {
        lists_are = ap (λ (value : MachineValue). value.lists) only ∙ driven.lists_are;
        sound = ap (λ (value : MachineValue). value.failed) only ∙ driven.sound;
        states = driven.states ++ after.state ∷ [];
        run =
            run_more lists driven.states seed (opening_state (length lists) roots searches) machine.state after.state place driven.run
            (subst (λ n. Picks machine.state n place) number_is picks) event;
        number_is = number_is ∙ sym (number_more driven.states seed after.state);
      }

  pub ended : (places : List ℕ) (groups : List (List ℕ)) → AreActors machine.state places → length places ≡ 0 → groups ≡ machine.state.groups
      → IsScheduled lists roots searches seed groups
  ended places groups actors none released = record {
    states = driven.states;
    end = machine.state;
    run = driven.run;
    stuck = λ place can. let has = actors.all place can in absurd (omega (arith, none, has.1));
    released = released;
  }

-- a machine makes an event in one step or in two, and less work is left
pub two_only : (old mid new : MachineValue) → mid ≡ record old { state = mid.state } → new ≡ record mid { state = new.state }
    → new ≡ record old { state = new.state }
two_only old mid new first second = second ∙ ap (λ (value : MachineValue). record value { state = new.state }) first

pub claims_event : (lists : List (List ℕ)) (old mid new : MachineValue) (place v : ℕ) → old.lists ≡ lists
    → mid ≡ record old { state = mid.state } → Asks old.state place v mid.state → Opens mid.lists mid.state place v new.state
    → IsEvent lists place old.state new.state
claims_event lists old mid new place v lists_are only asks opens =
    let same : mid.lists ≡ lists = ap (λ (value : MachineValue). value.lists) only ∙ lists_are in
    inr (record { v = v; between = mid.state; asks = asks; opens = subst (λ graph. Opens graph mid.state place v new.state) same opens })

pub sound_good : (machine : MachineValue) → IsGoodState machine.lists machine.roots machine.failed machine.state → machine.failed ≡ false
    → IsGoodState machine.lists machine.roots false machine.state
sound_good machine good sound = subst (λ failed. IsGoodState machine.lists machine.roots failed machine.state) sound good

pub turn_falls : (lists : List (List ℕ)) (old new : MachineValue) (place : ℕ) → old.lists ≡ lists
    → IsGoodState old.lists old.roots old.failed old.state → old.failed ≡ false → new ≡ record old { state = new.state }
    → IsEvent lists place old.state new.state → work new.lists new.state < work old.lists old.state
turn_falls lists old new place lists_are good sound only event =
    let falls : work old.lists new.state < work old.lists old.state =
    event_falls (sound_good old good sound) (subst (λ graph. IsEvent graph place old.state new.state) (sym lists_are) event) in
    let same : work new.lists new.state ≡ work old.lists new.state =
    ap (λ (value : MachineValue). work value.lists new.state) only in
    omega (arith, falls, same)

pub picked_in : (xs : List ℕ) (k x : ℕ) → slice_get xs k ≡ Some x → Contains xs x
picked_in xs k x at = (k, slice_get_within xs k x at, get_or_from_slice_get xs k x x at)

pub picked_some : (xs : List ℕ) (k x : ℕ) → slice_get xs k ≡ Some x → 0 < length xs
picked_some xs k x at = let within = slice_get_within xs k x at in omega (arith, within)

pub made_closed : (lists : List (List ℕ)) (roots : List ℕ) (searches : ℕ) (machine : MachineValue)
    → machine ≡ record { lists = lists; roots = roots; failed = false; state = opening_state (length lists) roots searches }
    → IsGoodState machine.lists machine.roots machine.failed machine.state → IsClosed lists
made_closed lists roots searches machine is good = subst IsClosed (ap (λ (value : MachineValue). value.lists) is) good.book.closed
