-- What the level of a group is found by: the levels of the groups before it, and the place of each node's group.
use Rattle.std.specs.Prelude.{◌≡◌, ℕ, ◌+◌, ◌<◌, ◌≤◌, ◌⊎◌, ◌↔◌, List, [], length, slice_index, slice_index_or, Contains, IsTrue}
use Rattle.graph_law.specs.Classes.{GroupCalls, IsRecursive, group_at}
use Rattle.graph_law.specs.Graph.{Calls}
use Rattle.group_release.specs.declared.level.Level.{Level}
use Rattle.group_release.specs.Level.{level_at}

-- one of the callees is in the group at j, which is before the place
pub record LeadDown (places : List ℕ) (place : ℕ) (callees : List ℕ) (j : ℕ) : Type 0 where
  pub callee : ℕ
  pub is_callee : Contains callees callee
  pub at : slice_index places callee ≡ j
  pub earlier : j < place

-- a member calls a node of the group at j, which is before the place
pub record MembersLeadDown (lists : List (List ℕ)) (places : List ℕ) (place : ℕ) (members : List ℕ) (j : ℕ) : Type 0 where
  pub member : ℕ
  pub is_member : Contains members member
  pub leads : LeadDown places place (slice_index_or lists member []) j

-- the height is raised above that of each group that is led to, and no further
pub record IsRaised (IsLedTo : ℕ → Type 0) (levels : List Level) (before after : ℕ) : Type 0 where
  pub kept : before ≤ after
  pub above : (j : ℕ) → IsLedTo j → (level_at levels j).height < after
  pub least : (after ≡ before) ⊎ ((j : ℕ) × IsLedTo j × (after ≡ (level_at levels j).height + 1))

-- the level of the group that comes after those with levels
pub record IsLevelOf (lists : List (List ℕ)) (places : List ℕ) (levels : List Level) (group : List ℕ) (level : Level) : Type 0 where
  pub height : IsRaised (MembersLeadDown lists places (length levels) group) levels 0 level.height
  pub mark : IsTrue level.recursive ↔ IsRecursive (Calls lists) group

-- each height is raised above those of the groups that are called, and is at most the number of groups before; the marks say which are recursive
pub record AreRaised (calls : ℕ → ℕ → Type 0) (groups : List (List ℕ)) (levels : List Level) : Type 0 where
  pub low : (i : ℕ) → i < length levels → (level_at levels i).height ≤ i
  pub heights : (i : ℕ) → i < length levels → IsRaised (GroupCalls calls groups i) levels 0 (level_at levels i).height
  pub marks : (i : ℕ) → i < length levels → IsTrue (level_at levels i).recursive ↔ IsRecursive calls (group_at groups i)
