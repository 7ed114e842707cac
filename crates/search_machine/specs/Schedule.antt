-- What many searches come to that take turns by a schedule.
use Rattle.std.specs.Prelude.{◌≡◌, ℕ, List, length}
use Rattle.search_machine.specs.Runs.{CanAct, IsRun, opening_state}
use Rattle.search_machine.specs.State.{State}

-- a run by the schedule of the seed, from the opening state to one where no place can act, releases these groups in this order
pub record IsScheduled (lists : List (List ℕ)) (roots : List ℕ) (searches seed : ℕ) (groups : List (List ℕ)) : Type 0 where
  pub states : List State
  pub end : State
  pub run : IsRun lists seed (opening_state (length lists) roots searches) states end
  pub stuck : (place : ℕ) → CanAct end place → ⊥
  pub released : groups ≡ end.groups
