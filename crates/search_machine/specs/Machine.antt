-- What contracts see of a machine, and what its calls do.
use Rattle.std.specs.Prelude.{◌≡◌, ℕ, ◌⊎◌, Bool, true, List, Option, None, Some, Result, Ok, Err}
use Rattle.std.specs.declared.alloc.AllocError.{AllocError}
use Rattle.search_stack.specs.Search.{IsDone}
use Rattle.search_stack.specs.Stack.{Stack}
use Rattle.blocked_table.specs.Kept.{kept_at}
use Rattle.search_machine.specs.declared.step.Step.{Step}
use Rattle.search_machine.specs.declared.step.Step.TheVariants.{Done, Open}
use Rattle.search_machine.specs.Events.{Asks, Begins, GoesOn, IsPlainEvent, Runs, SetsAt}
use Rattle.search_machine.specs.State.{State}

-- the graph and the roots that the machine was made with, whether it has failed, and the state of its searches
pub record MachineValue : Type 0 where
  pub lists : List (List ℕ)
  pub roots : List ℕ
  pub failed : Bool
  pub state : State

-- the place has made an event, or has claimed a node and waits for its opening
abbrev pub IsStep : Step → ℕ → State → State → Type 0
IsStep Done place s t = IsPlainEvent place s t
IsStep (Open v) place s t = Asks s place v t

-- nothing has changed, or the top of the search at the place has begun an edge
pub record Stops (s : State) (place : ℕ) (t : State) : Type 0 where
  pub either : SetsAt s.running t.running place (kept_at s.running place)
      ⊎ ((v : ℕ) × (begun : Stack) × Begins s place v begun × GoesOn s.running t.running place begun)
  pub only : t ≡ record s { running = t.running }

-- what becomes of a machine of which a place acts
pub record Acts (old new : MachineValue) (step : Step) (place : ℕ) : Type 0 where
  pub is : IsStep step place old.state new.state
  pub only : new ≡ record old { state = new.state }

-- and of one of which it can't, for want of memory
pub record Fails (old new : MachineValue) (place : ℕ) : Type 0 where
  pub stops : Stops old.state place new.state
  pub only : new ≡ record old { failed = true; state = new.state }

-- nothing has changed, and the top of the search at the place has begun all
pub record Stays (old new : MachineValue) (place : ℕ) : Type 0 where
  pub stack : Stack
  pub runs : Runs old.state place stack
  pub done : IsDone stack
  pub same : new ≡ old

abbrev pub IsActed : MachineValue → MachineValue → ℕ → Result Step AllocError → Type 0
IsActed old new place (Ok step) = Acts old new step place
IsActed old new place (Err error) = Fails old new place

abbrev pub IsBegun : MachineValue → MachineValue → ℕ → Result (Option Step) AllocError → Type 0
IsBegun old new place (Ok (Some step)) = Acts old new step place
IsBegun old new place (Ok None) = Stays old new place
IsBegun old new place (Err error) = Fails old new place
