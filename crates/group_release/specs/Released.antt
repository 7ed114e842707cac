-- What contracts see of released groups.
use Rattle.std.specs.Prelude.{◌≡◌, ℕ, ◌<◌, ◌≤◌, List, [], ◌∷◌, ◌++◌, length, nat_eq, All, Contains}
use Rattle.std.specs.List.{IsDistinct}
use Rattle.std.specs.List.Sorted.{IsPermutation, IsStrictlyIncreasing}
use Rattle.graph_law.specs.Classes.{HasMember}
use Rattle.graph_law.specs.CallOrder.{AreApart}

-- how many nodes there are, and the groups in the order of their release
pub record ReleasedGroups : Type 0 where
  pub count : ℕ
  pub groups : List (List ℕ)

-- no group is empty, members ascend, they are below the count, no node is in two groups, and there are no more groups than nodes
pub record AreReleased (released : ReleasedGroups) : Type 0 where
  pub inhabited : All (λ group. 0 < length group) released.groups
  pub ascending : All IsStrictlyIncreasing released.groups
  pub apart : AreApart released.count released.groups
  pub few : length released.groups ≤ released.count

-- the group can be released: it isn't empty, its nodes are distinct and below the count, and none of them is released
pub record IsNewGroup (released : ReleasedGroups) (group : List ℕ) : Type 0 where
  pub inhabited : 0 < length group
  pub distinct : IsDistinct nat_eq group
  pub below : All (λ node. node < released.count) group
  pub fresh : (node : ℕ) → Contains group node → HasMember released.groups node → ⊥

-- the group, with its members ascending, comes after the old groups
pub record IsAppended (old : ReleasedGroups) (group : List ℕ) (new : ReleasedGroups) : Type 0 where
  pub last : List ℕ
  pub same_members : IsPermutation group last
  pub ascending : IsStrictlyIncreasing last
  pub groups : new.groups ≡ old.groups ++ last ∷ []
  pub count : new.count ≡ old.count
