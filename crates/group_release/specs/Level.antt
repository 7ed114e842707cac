-- Levels of groups.
use Rattle.std.specs.Prelude.{ℕ, ◌<◌, ◌↔◌, false, List, length, map, slice_index_or, IsTrue}
use Rattle.graph_law.specs.Classes.{IsRecursive, group_at}
use Rattle.graph_law.specs.Heights.{HaveHeights}
use Rattle.group_release.specs.declared.level.Level.{Level}

-- the level of the group at a place
abbrev pub level_at : List Level → ℕ → Level
level_at levels place = slice_index_or levels place (record { height = 0; recursive = false })

-- each group's height, and whether it is recursive
pub record AreLevels (calls : ℕ → ℕ → Type 0) (groups : List (List ℕ)) (levels : List Level) : Type 0 where
  pub heights : HaveHeights calls groups (map (λ (level : Level). level.height) levels)
  pub marks : (i : ℕ) → i < length groups → IsTrue (level_at levels i).recursive ↔ IsRecursive calls (group_at groups i)
