-- Heights of groups.
use Rattle.std.specs.Prelude.{◌≡◌, ℕ, ◌+◌, ◌<◌, ◌⊎◌, List, length, slice_index}
use Rattle.graph_law.specs.Classes.{GroupCalls}

-- 0 where a group calls no other group, else one more than the greatest height among the groups that it calls
pub record HaveHeights (calls : ℕ → ℕ → Type 0) (groups : List (List ℕ)) (heights : List ℕ) : Type 0 where
  pub each : length heights ≡ length groups
  pub above : (i j : ℕ) → GroupCalls calls groups i j → slice_index heights j < slice_index heights i
  pub least : (i : ℕ) → i < length groups →
      (slice_index heights i ≡ 0) ⊎ ((j : ℕ) × GroupCalls calls groups i j × (slice_index heights i ≡ slice_index heights j + 1))
