-- Each schedule comes to an end, since each event leaves less work.
use Rattle.std.proofs.Common.{◌≡◌, inl, inr, ℕ, zero, suc, ◌<◌, ◌+◌, ◌%◌, false, List, [], ◌∷◌, length, get_or, Some, refl, arith}
use Rattle.std.proofs.lemmas.Bool.{cases_lt}
use Rattle.std.proofs.lemmas.Nat.{mod_below}
use Rattle.std.proofs.lemmas.Option.{slice_get-get_or}
use Rattle.std.specs.Prelude.{All, slice_get}
use Rattle.graph_law.specs.Graph.{IsClosed}
use Rattle.search_machine.specs.Runs.{AreActors, CanAct, IsRun, Picks, drawn, next_number, opening_state}
use Rattle.search_machine.specs.State.{State, IsGoodState}
use Rattle.search_machine.proofs.Runs.{event_keeps}
use Rattle.search_machine.proofs.Starting.{starts_good}
use Rattle.search_machine.specs.Schedule.{IsScheduled}
use Rattle.search_machine.specs.Work.{work}
use Rattle.search_machine.proofs.Driving.{picked_in}
use Rattle.search_machine.proofs.Falling.{event_falls}
use Rattle.laws.proofs.Actors.{actors_of, event_of}
use Rattle.laws.proofs.Turning.{HasEvent}

-- the run goes on to a state where no place can act
record IsEnded (lists : List (List ℕ)) (x : ℕ) (s : State) : Type 0 where
  states : List State
  end : State
  run : IsRun lists x s states end
  stuck : (place : ℕ) → CanAct end place → ⊥

-- the place that the draw picks
pick : (s : State) (number : ℕ) (places : List ℕ) → AreActors s places → 0 < length places → (place : ℕ) × Picks s number place × CanAct s place
pick s number places actors some =
    let k : ℕ = drawn number % length places in
    let place : ℕ = get_or places k 0 in
    let picked : slice_get places k ≡ Some place = slice_get-get_or places k 0 (mod_below (drawn number) (length places) some) in (
      place,
      record { places = places; actors = actors; some = some; picked = picked },
      actors.can place (picked_in places k place picked),
    )

run_on : (lists : List (List ℕ)) (roots : List ℕ) (left : ℕ) (x : ℕ) (s : State) → IsGoodState lists roots false s → work lists s < left
    → IsEnded lists x s
run_on lists roots zero x s good less = absurd (omega (arith, less))
run_on lists roots (suc n) x s good less =
    let actors : (places : List ℕ) × AreActors s places = actors_of s in
    elim (cases_lt 0 (length actors.0)) [
      | inr none ↦ record {
        states = [];
        end = s;
        run = refl;
        stuck = λ place can. (let has = actors.1.all place can in let lt = has.1 in omega (arith, none, lt));
      }
      | inl some ↦
          let picks : (place : ℕ) × Picks s (next_number x) place × CanAct s place = pick s (next_number x) actors.0 actors.1 some in
          let event : HasEvent lists s picks.0 = event_of good picks.2 in
          let falls : work lists event.0 < work lists s = event_falls good event.1 in
          let rest : IsEnded lists (next_number x) event.0 =
          run_on lists roots n (next_number x) event.0 (event_keeps good event.1) (omega (arith, less, falls)) in
          record {
            states = event.0 ∷ rest.states;
            end = rest.end;
            run = ((picks.0, picks.1, event.1), rest.run);
            stuck = rest.stuck;
          }
    ]

pub schedule_of : (lists : List (List ℕ)) (roots : List ℕ) (searches seed : ℕ) → IsClosed lists → All (λ root. root < length lists) roots
    → (groups : List (List ℕ)) × IsScheduled lists roots searches seed groups
schedule_of lists roots searches seed closed rooted =
    let first : State = opening_state (length lists) roots searches in
    let good : IsGoodState lists roots false first = starts_good lists roots searches closed rooted in
    let all : IsEnded lists seed first = run_on lists roots (work lists first + 1) seed first good (omega arith) in
    (all.end.groups, record { states = all.states; end = all.end; run = all.run; stuck = all.stuck; released = refl })
