-- Lists of the slots that have a property.
use Rattle.std.specs.Prelude.{◌≡◌, ℕ, ◌<◌, List, length, slice_index_or, Contains}

-- the slots in the list are exactly those for which P holds, and each is in it once
pub record AreJust (P : ℕ → Type 0) (places : List ℕ) : Type 0 where
  pub once : (i j : ℕ) → i < j → j < length places → slice_index_or places i 0 ≡ slice_index_or places j 0 → ⊥
  pub to : (place : ℕ) → Contains places place → P place
  pub from : (place : ℕ) → P place → Contains places place
