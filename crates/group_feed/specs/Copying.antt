-- Released groups that were copied, a part of them at a time.
use Rattle.std.specs.Prelude.{ℕ, ◌<◌, List, Contains}
use Rattle.list_laws.specs.Counts.{IsLonger, times}
use Rattle.graph_law.specs.Classes.{HasMember, group_at}
use Rattle.group_feed.specs.Ordered.{AreOrdered}

-- each node of the first groups is one of the second
abbrev pub AreWithin : List (List ℕ) → List (List ℕ) → Type 0
AreWithin some all = (p : ℕ) → HasMember some p → HasMember all p

-- the nodes of the first n groups are among the copies
abbrev pub AreCopiedUpTo : ℕ → List (List ℕ) → List (List ℕ) → Type 0
AreCopiedUpTo n groups copies = (i p : ℕ) → i < n → Contains (group_at groups i) p → HasMember copies p

-- the pass saw each node of the groups finished
abbrev pub AreNodesSeen : List (List ℕ) → List ℕ → Type 0
AreNodesSeen groups seen = (p : ℕ) → HasMember groups p → 0 < times p seen

-- each node that the pass saw finished is in one of the groups
abbrev pub AreCopied : List ℕ → List (List ℕ) → Type 0
AreCopied seen groups = (p : ℕ) → 0 < times p seen → HasMember groups p

-- the old copies, and behind them those of the first n groups that weren't there yet
pub record IsCopied (lists groups old new : List (List ℕ)) (n : ℕ) : Type 0 where
  pub ordered : AreOrdered lists new
  pub longer : IsLonger old new
  pub within : AreWithin new groups
  pub upto : AreCopiedUpTo n groups new
