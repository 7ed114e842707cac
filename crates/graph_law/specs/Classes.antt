-- Classes of mutual reach.
use Rattle.std.specs.Prelude.{◌≡◌, ℕ, ◌<◌, ◌≤◌, ◌⊎◌, List, [], length, map, slice_index, slice_index_or, All, Contains}
use Rattle.std.specs.List.Sorted.{IsStrictlyIncreasing}
use Rattle.graph_law.specs.Reach.{IsReached, ReachEachOther}

-- the group at a place, and no node past the end
abbrev pub group_at : List (List ℕ) → ℕ → List ℕ
group_at groups i = slice_index_or groups i []

-- p is a member of one of the groups
pub record HasMember (groups : List (List ℕ)) (p : ℕ) : Type 0 where
  pub place : ℕ
  pub within : place < length groups
  pub member : Contains (group_at groups place) p

-- a class of mutual reach, its members ascending
pub record IsClass (calls : ℕ → ℕ → Type 0) (class : List ℕ) : Type 0 where
  pub inhabited : 0 < length class
  pub ascending : IsStrictlyIncreasing class
  pub mutual_reach : (p q : ℕ) → Contains class p → Contains class q → ReachEachOther calls p q
  pub whole : (p q : ℕ) → Contains class p → ReachEachOther calls p q → Contains class q

-- the least member of a class, whose members ascend
abbrev pub least_member : List ℕ → ℕ
least_member class = slice_index class 0

-- the classes of what the starts reach, in order of their least members
pub record AreClasses (calls : ℕ → ℕ → Type 0) (starts : List ℕ) (classes : List (List ℕ)) : Type 0 where
  pub each : All (IsClass calls) classes
  pub reached : (p : ℕ) → HasMember classes p → IsReached calls starts p
  pub all : (p : ℕ) → IsReached calls starts p → HasMember classes p
  pub in_order : IsStrictlyIncreasing (map least_member classes)

-- it has two members or more, or its one member calls itself
abbrev pub IsRecursive : (ℕ → ℕ → Type 0) → List ℕ → Type 0
IsRecursive calls class = (2 ≤ length class) ⊎ ((length class ≡ 1) × calls (least_member class) (least_member class))

-- a member of the group at i calls a member of the group at j, which is another group
pub record GroupCalls (calls : ℕ → ℕ → Type 0) (groups : List (List ℕ)) (i j : ℕ) : Type 0 where
  pub caller : ℕ
  pub callee : ℕ
  pub caller_within : i < length groups
  pub callee_within : j < length groups
  pub other : i ≡ j → ⊥
  pub is_caller : Contains (group_at groups i) caller
  pub is_callee : Contains (group_at groups j) callee
  pub call : calls caller callee
