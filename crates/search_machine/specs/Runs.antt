-- Runs of many searches on one thread by a schedule that can be run again.
use Rattle.std.specs.Prelude.{◌≡◌, ℕ, ◌+◌, ◌*◌, ◌/◌, ◌%◌, ◌^◌, ◌<◌, ◌⊎◌, false, List, [], ◌∷◌, length, replicate, slice_get, None, Some, Contains}
use Rattle.std.specs.List.Sorted.{IsStrictlyIncreasing}
use Rattle.blocked_table.specs.Blocked.{HasReady}
use Rattle.blocked_table.specs.Kept.{kept_at}
use Rattle.search_machine.specs.State.{State, waiting_at}
use Rattle.search_machine.specs.Events.{IsEvent}

-- nothing is claimed, all places are idle, and all roots are to come
abbrev pub opening_state : ℕ → List ℕ → ℕ → State
opening_state count roots places = record {
  running = replicate places None;
  waiting = replicate places None;
  kept = [];
  claimed = replicate count false;
  to_come = roots;
  groups = [];
}

-- the number after x, and what a draw gives of a number
abbrev pub next_number : ℕ → ℕ
next_number x = (x * 6364136223846793005 + 1442695040888963407) % 2 ^ 64

abbrev pub drawn : ℕ → ℕ
drawn x = x / 2 ^ 33

-- a root is to come, or a kept search is ready
abbrev pub HasMore : State → Type 0
HasMore s = (0 < length s.to_come) ⊎ HasReady s.kept

-- a place can act that waits for no opening and has a search, or is idle while there is more to take
pub record CanAct (s : State) (place : ℕ) : Type 0 where
  pub within : place < length s.running
  pub free : waiting_at s place ≡ None
  pub has : (kept_at s.running place ≡ None → ⊥) ⊎ HasMore s

-- these are the places that can act, ascending
pub record AreActors (s : State) (places : List ℕ) : Type 0 where
  pub ascending : IsStrictlyIncreasing places
  pub can : (place : ℕ) → Contains places place → CanAct s place
  pub all : (place : ℕ) → CanAct s place → Contains places place

-- the draw of the number picks the place
pub record Picks (s : State) (number place : ℕ) : Type 0 where
  pub places : List ℕ
  pub actors : AreActors s places
  pub some : 0 < length places
  pub picked : slice_get places (drawn number % length places) ≡ Some place

-- the states that follow, one event each, at whatever places
abbrev pub AreEvents : List (List ℕ) → State → List State → State → Type 0
AreEvents lists s [] end = s ≡ end
AreEvents lists s (t ∷ ts) end = ((place : ℕ) × IsEvent lists place s t) × AreEvents lists t ts end

-- the states that follow, one event a turn, where the numbers go on from x
abbrev pub IsRun : List (List ℕ) → ℕ → State → List State → State → Type 0
IsRun lists x s [] end = s ≡ end
IsRun lists x s (t ∷ ts) end = ((place : ℕ) × Picks s (next_number x) place × IsEvent lists place s t) × IsRun lists (next_number x) t ts end
