-- The names that files load, put to a set of names.
use Rattle.std.specs.Prelude.{ℕ, ◌<◌, ◌≤◌, ◌⊎◌, List, length, Contains}

-- the new names are the old ones and those of the files that weren't asked for; or there are more of them than there is room for, and some may be missing
pub record AddsFiles (asked : List (List ℕ)) (room : ℕ) (old files new : List (List ℕ)) : Type 0 where
  pub kept : (name : List ℕ) → Contains old name → Contains new name
  pub sound : (name : List ℕ) → Contains new name → Contains old name ⊎ (Contains files name × (Contains asked name → ⊥))
  pub all : (name : List ℕ) → Contains files name → Contains asked name ⊎ (Contains new name ⊎ (room < length new))
  pub grows : length old ≤ length new
