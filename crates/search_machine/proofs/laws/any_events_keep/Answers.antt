use Rattle.std.proofs.Common.{ℕ, ◌<◌, false, List, length}
use Rattle.std.specs.Prelude.{All}
use Rattle.graph_law.specs.Graph.{IsClosed}
use Rattle.search_machine.specs.Runs.{AreEvents, opening_state}
use Rattle.search_machine.specs.State.{State, IsGoodState}
use Rattle.search_machine.proofs.Runs.{all_keep}
use Rattle.search_machine.proofs.Starting.{starts_good}
use Rattle.search_machine.proofs.laws.any_events_keep.Goals as goal

pub returns-clause-keep : goal.returns-clause-keep
returns-clause-keep c = λ lists roots s states end good run. all_keep lists roots states s end good run

comes_to_good : (lists : List (List ℕ)) (roots : List ℕ) (places : ℕ) (states : List State) (end : State) → IsClosed lists
    → All (λ root. root < length lists) roots → AreEvents lists (opening_state (length lists) roots places) states end
    → IsGoodState lists roots false end
comes_to_good lists roots places states end closed rooted run =
    all_keep lists roots states (opening_state (length lists) roots places) end (starts_good lists roots places closed rooted) run

pub returns-clause-legal : goal.returns-clause-legal
returns-clause-legal c = λ lists roots places states end closed rooted run.
    (comes_to_good lists roots places states end closed rooted run).book.legal

pub returns-clause-reached : goal.returns-clause-reached
returns-clause-reached c = λ lists roots places states end closed rooted run.
    (comes_to_good lists roots places states end closed rooted run).book.reached
