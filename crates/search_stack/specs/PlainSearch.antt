-- What one search after another keeps.
use Rattle.std.specs.Prelude.{◌≡◌, ℕ, ◌<◌, ◌⊎◌, Bool, true, false, List, length, slice_index_or, Contains}
use Rattle.graph_law.specs.Graph.{Calls}
use Rattle.graph_law.specs.Reach.{IsReached}
use Rattle.graph_law.specs.Classes.{HasMember}
use Rattle.graph_law.specs.LegalOrder.{IsLegalOrder}
use Rattle.search_stack.specs.Stack.{Stack, size, top, node, succs, begun, position}
use Rattle.search_stack.specs.GoodSearch.{IsGood}
use Rattle.search_stack.specs.Search.{IsOn, IsDistinct, lowered}

-- the successors of the top frame's entry, and how many of them have begun
abbrev pub top_succs : Stack → List ℕ
top_succs s = succs s (position s (top s))

abbrev pub top_begun : Stack → ℕ
top_begun s = begun s (position s (top s))

-- the node is marked
abbrev pub IsSeen : List Bool → ℕ → Type 0
IsSeen seen v = slice_index_or seen v false ≡ true

-- the top low is the lesser of itself and the place of v, and where v isn't on the stack, nothing changes
pub record IsSettledBy (s : Stack) (v : ℕ) (t : Stack) : Type 0 where
  pub place : ℕ
  pub is : t ≡ lowered s place
  pub on : (i : ℕ) → i < size s → node s i ≡ v → place ≡ i
  pub off : (IsOn s v → ⊥) → t ≡ s

-- the stack is good with the members of the groups finished, the nodes of both are those that are seen, and no node is in both;
-- the groups are a legal order of what the roots reach
pub record IsUnderWay (lists : List (List ℕ)) (roots : List ℕ) (seen : List Bool) (groups : List (List ℕ)) (opened : Bool) (s : Stack) : Type 0 where
  pub finished : List ℕ
  pub good : IsGood lists roots finished opened s
  pub in_groups : (v : ℕ) → Contains finished v → HasMember groups v
  pub are_finished : (v : ℕ) → HasMember groups v → Contains finished v
  pub each : length seen ≡ length lists
  pub only : (v : ℕ) → IsSeen seen v → IsOn s v ⊎ HasMember groups v
  pub on_seen : (v : ℕ) → IsOn s v → IsSeen seen v
  pub members_seen : (v : ℕ) → HasMember groups v → IsSeen seen v
  pub apart : (v : ℕ) → IsOn s v → HasMember groups v → ⊥
  pub once : IsDistinct s
  pub legal : IsLegalOrder (Calls lists) groups
  pub reached : (v : ℕ) → HasMember groups v → IsReached (Calls lists) roots v
