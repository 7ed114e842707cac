-- What the heights are computed by: the groups in an order with callees first, and the place of each node's group.
use Rattle.std.specs.Prelude.{◌≡◌, ℕ, ◌+◌, ◌<◌, ◌⊎◌, Bool, List, [], length, count_by, slice_index, slice_index_or, All, Contains}
use Rattle.graph_law.specs.Classes.{group_at, GroupCalls, HasMember}
use Rattle.graph_law.specs.Reached.{AreReached}

-- the members are below the count, and no node is in two groups
pub record AreApart (count : ℕ) (groups : List (List ℕ)) : Type 0 where
  pub below : (i p : ℕ) → i < length groups → Contains (group_at groups i) p → p < count
  pub once : (i j p : ℕ) → i < length groups → j < length groups
      → Contains (group_at groups i) p → Contains (group_at groups j) p → i ≡ j

-- how many nodes the group reaches
pub record IsRank (calls : ℕ → ℕ → Type 0) (count : ℕ) (group : List ℕ) (rank : ℕ) : Type 0 where
  pub marks : List Bool
  pub reached : AreReached calls count group marks
  pub counted : rank ≡ count_by (λ mark. mark) marks

-- the places of all groups, each after those of the groups that it calls
pub record IsCalleesFirst (calls : ℕ → ℕ → Type 0) (groups : List (List ℕ)) (order : List ℕ) : Type 0 where
  pub each : length order ≡ length groups
  pub within : All (λ place. place < length groups) order
  pub all : (i : ℕ) → i < length groups → Contains order i
  pub callees_first : (k m : ℕ) → k < length order → m < length order
      → GroupCalls calls groups (slice_index order k) (slice_index order m) → m < k

-- for each node, the place of its group
pub record AreGroupPlaces (count : ℕ) (groups : List (List ℕ)) (places : List ℕ) : Type 0 where
  pub each : length places ≡ count
  pub at : (i p : ℕ) → i < length groups → Contains (group_at groups i) p → slice_index places p ≡ i

-- a node that is in no group has the place 0
abbrev pub AreZeroElsewhere : List (List ℕ) → List ℕ → Type 0
AreZeroElsewhere groups places = (p : ℕ) → HasMember groups p ⊎ (slice_index places p ≡ 0)

-- one of the callees is in the group at j, which is another group
pub record LeadsTo (places : List ℕ) (place : ℕ) (callees : List ℕ) (j : ℕ) : Type 0 where
  pub callee : ℕ
  pub is_callee : Contains callees callee
  pub at : slice_index places callee ≡ j
  pub other : place ≡ j → ⊥

-- a member calls a node of the group at j, which is another group
pub record MembersLeadTo (lists : List (List ℕ)) (places : List ℕ) (place : ℕ) (members : List ℕ) (j : ℕ) : Type 0 where
  pub member : ℕ
  pub is_member : Contains members member
  pub leads : LeadsTo places place (slice_index_or lists member []) j

-- one more than the greatest height of a group that is led to, or 0 where there is none
pub record IsJustAbove (IsLedTo : ℕ → Type 0) (heights : List ℕ) (height : ℕ) : Type 0 where
  pub above : (j : ℕ) → IsLedTo j → slice_index heights j < height
  pub least : (height ≡ 0) ⊎ ((j : ℕ) × IsLedTo j × (height ≡ slice_index heights j + 1))
