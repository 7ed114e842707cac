-- What a search keeps, for a graph, its roots and the nodes that are finished.
use Rattle.std.specs.Prelude.{◌≡◌, ℕ, ◌+◌, ◌-◌, ◌<◌, ◌≤◌, ◌⊎◌, Bool, false, List, [], length, slice_index_or, Contains}
use Rattle.graph_law.specs.Graph.{Calls}
use Rattle.graph_law.specs.Reach.{Reaches, IsReached, ReachEachOther}
use Rattle.search_stack.specs.Stack.{Stack, IsShaped, size, height, node, succs, begun, target, position, low}

-- v stands at a place from `first` up to, and without, `past`
pub record StandsIn (s : Stack) (first past v : ℕ) : Type 0 where
  pub place : ℕ
  pub from : first ≤ place
  pub below : place < past
  pub is : node s place ≡ v

-- a frame at or above a has a low below the position of a
pub record Dips (s : Stack) (a : ℕ) : Type 0 where
  pub frame : ℕ
  pub from : a ≤ frame
  pub within : frame < height s
  pub is : low s frame < position s a

-- the last begun edge of frame j leads to a place at or above the next frame, and each frame above that one and at or below the place dips
pub record LeadsUp (s : Stack) (j : ℕ) : Type 0 where
  pub place : ℕ
  pub from : position s (j + 1) ≤ place
  pub within : place < size s
  pub is : node s place ≡ target s (position s j) (begun s (position s j) - 1)
  pub held : (a : ℕ) → j + 1 < a → a < height s → position s a ≤ place → Dips s a

-- edge k of entry i in segment j isn't the open edge of frame j: the last that frame j has begun is open, save the top's where `opened` is false
abbrev pub IsSettled : Stack → Bool → ℕ → ℕ → ℕ → Type 0
IsSettled s opened j i k = (position s j < i) ⊎ ((k + 1 < begun s i) ⊎ ((j + 1 ≡ height s) × (opened ≡ false)))

-- v is finished, or stands from the low of frame j up to the end of segment j
abbrev pub IsInward : List ℕ → Stack → ℕ → ℕ → Type 0
IsInward done s j v = Contains done v ⊎ StandsIn s (low s j) (position s (j + 1)) v

-- the stack is good for the graph, the roots and the finished nodes; `opened` says that the last edge that the top has begun is open
pub record IsGood (lists : List (List ℕ)) (roots done : List ℕ) (opened : Bool) (s : Stack) : Type 0 where
  pub shaped : IsShaped s
  -- an entry that isn't a frame's has begun all, and it and its frame's entry reach each other
  pub begun_all : (j i : ℕ) → j < height s → position s j < i → i < position s (j + 1) → begun s i ≡ length (succs s i)
  pub segment : (j i : ℕ) → j < height s → position s j ≤ i → i < position s (j + 1)
      → ReachEachOther (Calls lists) (node s i) (node s (position s j))
  -- a frame's entry reaches the next frame's, and the entry at its low
  pub up : (j : ℕ) → j + 1 < height s → Reaches (Calls lists) (node s (position s j)) (node s (position s (j + 1)))
  pub down : (j : ℕ) → j < height s → Reaches (Calls lists) (node s (position s j)) (node s (low s j))
  -- where the begun edges lead, those that are settled and the open ones below the top
  pub inward : (j i k : ℕ) → j < height s → position s j ≤ i → i < position s (j + 1) → k < begun s i
      → IsSettled s opened j i k → IsInward done s j (target s i k)
  pub leads : (j : ℕ) → j + 1 < height s → LeadsUp s j
  -- every entry is reached from a root, and its successors are those of the graph
  pub reached : (i : ℕ) → i < size s → IsReached (Calls lists) roots (node s i)
  pub true_succs : (i : ℕ) → i < size s → succs s i ≡ slice_index_or lists (node s i) []
