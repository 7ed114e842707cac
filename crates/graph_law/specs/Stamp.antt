-- Writing one value at many places of a table.
use Rattle.std.specs.Prelude.{◌≡◌, ℕ, ◌⊎◌, List, length, slice_index_or, Contains}

-- the nodes have the value, and what isn't one of them has the value that it had
pub record IsStamped {X : Type 0} (nodes : List ℕ) (value : X) (old new : List X) : Type 0 where
  pub each : length new ≡ length old
  pub stamped : (p : ℕ) (d : X) → Contains nodes p → slice_index_or new p d ≡ value
  pub kept : (p : ℕ) (d : X) → Contains nodes p ⊎ (slice_index_or new p d ≡ slice_index_or old p d)
