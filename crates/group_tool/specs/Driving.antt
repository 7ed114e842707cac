-- In which order groups are found.
use Rattle.std.specs.Prelude.{ℕ, List, Option, None, Some}
use Rattle.search_machine.specs.Schedule.{IsScheduled}

-- with so many searches and a seed, the groups stand in the order in which these release them, by the schedule that the seed draws; else no order is asked for
abbrev pub AreInScheduleOrder : Option (ℕ × ℕ) → List (List ℕ) → List ℕ → List (List ℕ) → Type 0
AreInScheduleOrder None lists roots groups = Unit {0}
AreInScheduleOrder (Some both) lists roots groups = IsScheduled lists roots both.0 both.1 groups
