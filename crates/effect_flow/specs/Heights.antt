-- Groups by their heights.
use Rattle.std.specs.Prelude.{ℕ, ◌<◌, ◌≤◌, List, length, slice_index, All, Contains}
use Rattle.group_release.specs.declared.level.Level.{Level}
use Rattle.group_release.specs.Level.{level_at}

-- the height of the group that stands at a place of the order
abbrev pub height_at : List Level → List ℕ → ℕ → ℕ
height_at levels order k = (level_at levels (slice_index order k)).height

-- the places of all groups, lower ones first
pub record AreByHeight (levels : List Level) (order : List ℕ) : Type 0 where
  pub within : All (λ place. place < length levels) order
  pub all : (place : ℕ) → place < length levels → Contains order place
  pub rising : (k m : ℕ) → k < m → m < length order → height_at levels order k ≤ height_at levels order m
