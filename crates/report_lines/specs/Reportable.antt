-- What reports are made of.
use Rattle.std.specs.Prelude.{◌≡◌, ℕ, ◌<◌, ◌≢◌, List, length, map, All, AllPairs}
use Rattle.std.specs.List.Sorted.{IsStrictlyIncreasing}
use Rattle.graph_law.specs.Reach.{IsReached}
use Rattle.graph_law.specs.Graph.{Calls}
use Rattle.graph_law.specs.Classes.{HasMember, least_member}
use Rattle.graph_law.specs.LegalOrder.{IsLegalOrder, IsComplete}
use Rattle.group_release.specs.declared.level.Level.{Level}
use Rattle.group_release.specs.Level.{AreLevels}

-- the groups are the classes of mutual reach of what the starts reach, each after those that it calls
pub record AreGroups (calls : ℕ → ℕ → Type 0) (starts : List ℕ) (groups : List (List ℕ)) : Type 0 where
  pub legal : IsLegalOrder calls groups
  pub complete : IsComplete starts groups
  pub reached : (p : ℕ) → HasMember groups p → IsReached calls starts p

-- and these are their levels
pub record AreLeveled (calls : ℕ → ℕ → Type 0) (starts : List ℕ) (groups : List (List ℕ)) (levels : List Level) : Type 0 where
  pub are : AreGroups calls starts groups
  pub leveled : AreLevels calls groups levels

-- the groups are in a legal order of some calls, their members are below the count, and the levels are theirs
pub record AreReportable (count : ℕ) (groups : List (List ℕ)) (levels : List Level) : Type 0 where
  pub lists : List (List ℕ)
  pub legal : IsLegalOrder (Calls lists) groups
  pub nodes : (p : ℕ) → HasMember groups p → p < count
  pub leveled : AreLevels (Calls lists) groups levels

-- no two groups have the same least member
abbrev pub LeastDiffer : List (List ℕ) → Type 0
LeastDiffer groups = AllPairs (λ a b. a ≢ b) (map least_member groups)

-- what lines are made of: each group has a level and some members, which ascend and are below the count
pub record ArePrintable (count : ℕ) (groups : List (List ℕ)) (levels : List Level) : Type 0 where
  pub one_level_each : length levels ≡ length groups
  pub inhabited : All (λ members. 0 < length members) groups
  pub ascending : All IsStrictlyIncreasing groups
  pub within : All (All (λ member. member < count)) groups
  pub least_differ : LeastDiffer groups
