-- The ranks of names in the order of their bytes.
use Rattle.std.specs.Prelude.{◌≡◌, ℕ, ◌<◌, List, length, slice_index, All, Contains}
use Rattle.byte_names.specs.Names.{name_at, AreInOrder}

-- each of the names has a rank: its index among the different ones, which are in order
pub record IsRanking (names different : List (List ℕ)) (ranks : List ℕ) : Type 0 where
  pub in_order : AreInOrder different
  pub only : All (Contains names) different
  pub each : length ranks ≡ length names
  pub within : (place : ℕ) → place < length names → slice_index ranks place < length different
  pub named : (place : ℕ) → place < length names → name_at different (slice_index ranks place) ≡ name_at names place
