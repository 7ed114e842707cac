-- What contracts see of a search, and what its calls do.
use Rattle.std.specs.Prelude.{◌≡◌, ℕ, ◌+◌, ◌-◌, ◌<◌, ◌≤◌, ◌⊎◌, min, List, [], ◌∷◌, ◌++◌, length, map, take, drop, nat_eq, slice_get, slice_set}
use Rattle.std.specs.Prelude.{Contains, Option, Some, None, is_some, if◌then◌else◌, IfSome}
use Rattle.graph_law.specs.Graph.{Calls}
use Rattle.graph_law.specs.Reach.{IsReached, ReachEachOther}
use Rattle.search_stack.specs.declared.frame.Frame.{Frame}
use Rattle.search_stack.specs.GoodSearch.{Dips, IsGood}
use Rattle.search_stack.specs.Stack.{Stack, size, height, top, node, succs, begun, target, position, low}

-- the stack, the node that is wanted, and for how many more entries there is room
pub record SearchValue : Type 0 where
  pub stack : Stack
  pub wanted : Option ℕ
  pub spare : ℕ

abbrev pub empty_stack : Stack
empty_stack = record { entries = []; frames = [] }

-- the node is on the stack
pub record IsOn (s : Stack) (v : ℕ) : Type 0 where
  pub place : ℕ
  pub within : place < size s
  pub is : node s place ≡ v

-- no node is on the stack twice
abbrev pub IsDistinct : Stack → Type 0
IsDistinct s = (i j : ℕ) → i < size s → j < size s → node s i ≡ node s j → i ≡ j

-- v is the last successor that the top frame's entry has begun
pub record IsLastBegun (s : Stack) (v : ℕ) : Type 0 where
  pub some : 0 < height s
  pub begins : 0 < begun s (position s (top s))
  pub is : target s (position s (top s)) (begun s (position s (top s)) - 1) ≡ v

-- the top frame's entry has begun all its successors
pub record IsDone (s : Stack) : Type 0 where
  pub some : 0 < height s
  pub all : begun s (position s (top s)) ≡ length (succs s (position s (top s)))

-- the top frame's entry has begun all, and the top low is the top position
pub record IsRipe (s : Stack) : Type 0 where
  pub done : IsDone s
  pub low_is : low s (top s) ≡ position s (top s)

-- a new entry with none begun, and a new frame for it
unfoldable pub pushed : Stack → ℕ → List ℕ → Stack
pushed s v list = record {
  entries = s.entries ++ (record { node = v; succs = list; begun = 0 }) ∷ [];
  frames = s.frames ++ (record { position = size s; low = size s }) ∷ [];
}

-- the next successor of the top frame's entry
unfoldable pub next_successor : Stack → Option ℕ
next_successor s = slice_get (succs s (position s (top s))) (begun s (position s (top s)))

-- the entry at the place has begun one more
unfoldable pub one_more_begun : Stack → ℕ → Stack
one_more_begun s i = record {
  entries = slice_set s.entries i (record { node = node s i; succs = succs s i; begun = begun s i + 1 });
  frames = s.frames;
}

-- the top low is the lesser of itself and the place
unfoldable pub lowered : Stack → ℕ → Stack
lowered s place = record {
  entries = s.entries;
  frames = slice_set s.frames (top s) (record { position = position s (top s); low = min (low s (top s)) place });
}

-- the top frame is gone, and the new top has the lesser of both lows
unfoldable pub retreated : Stack → Stack
retreated s = record {
  entries = s.entries;
  frames =
      slice_set (take (top s) s.frames) (top s - 1)
      (record { position = position s (top s - 1); low = min (low s (top s - 1)) (low s (top s)) });
}

-- the part of the stack below frame a
unfoldable pub below_frame : Stack → ℕ → Stack
below_frame s a = record { entries = take (position s a) s.entries; frames = take a s.frames }

-- the nodes from frame a on, in stack order
unfoldable pub nodes_from : Stack → ℕ → List ℕ
nodes_from s a = drop (position s a) (map (λ entry. entry.node) s.entries)

-- the nodes may be released as one group: they reach each other and are reached from a root, and their calls lead to them or to finished nodes
pub record IsReleasable (lists : List (List ℕ)) (roots done group : List ℕ) : Type 0 where
  pub inhabited : 0 < length group
  pub mutual_reach : (p q : ℕ) → Contains group p → Contains group q → ReachEachOther (Calls lists) p q
  pub reached : (p : ℕ) → Contains group p → IsReached (Calls lists) roots p
  pub calls : (p q : ℕ) → Contains group p → Calls lists p q → Contains group q ⊎ Contains done q

-- v stands on the stack, and the frame is the greatest at or below v's place such that no frame from it on has a low below its position
pub record IsCut (s : Stack) (v frame : ℕ) : Type 0 where
  pub place : ℕ
  pub on : place < size s
  pub is : node s place ≡ v
  pub within : frame < height s
  pub at_or_below : position s frame ≤ place
  pub lawful : Dips s frame → ⊥
  pub greatest : (b : ℕ) → frame < b → b < height s → position s b ≤ place → Dips s b

-- a frame that stood above `first` stands above `base`
abbrev pub moved : ℕ → ℕ → Frame → Frame
moved base first frame = record { position = base + (frame.position - first); low = base + (frame.low - first) }

-- the part of d from frame a on, on top of s
unfoldable pub joined : Stack → Stack → ℕ → Stack
joined s d a = record {
  entries = s.entries ++ drop (position d a) d.entries;
  frames = s.frames ++ map (moved (size s) (position d a)) (drop a d.frames);
}

-- the last successor that the top frame's entry has begun, or none if there is no frame
abbrev pub last_begun : Stack → Option ℕ
last_begun s =
    if nat_eq (height s) 0 then None else Some (target s (position s (top s)) (begun s (position s (top s)) - 1))

-- the part of the donor from the frame on has moved on top of the search, and `left` is what the donor keeps
pub record IsMoved (old new donor left : SearchValue) (frame : ℕ) : Type 0 where
  -- the search has that part, and waits for nothing
  pub joined : new.stack ≡ joined old.stack donor.stack frame
  pub wants_nothing : new.wanted ≡ None
  -- no more capacity is used than for that part
  pub spare : old.spare + position donor.stack frame ≤ new.spare + size donor.stack
  -- the donor has the part below, and waits for the last node that its top has begun
  pub rest : left.stack ≡ below_frame donor.stack frame
  pub rest_wants : left.wanted ≡ last_begun left.stack

-- the search is good with nothing undecided: where it wants a node, the last edge of its top is open and leads to that node
pub record IsGoodSearch (lists : List (List ℕ)) (roots done : List ℕ) (search : SearchValue) : Type 0 where
  pub good : IsGood lists roots done (is_some search.wanted) search.stack
  pub wants : IfSome search.wanted (IsLastBegun search.stack)
