-- A depth-first search as a stack of nodes, cut into segments by its frames.
use Rattle.std.specs.Prelude.{◌≡◌, ℕ, ◌+◌, ◌-◌, ◌<◌, ◌≤◌, List, [], length, slice_index, slice_index_or}
use Rattle.search_stack.specs.declared.frame.Frame.{Frame}

-- a node with its successors, the first of which have begun
pub record Entry : Type 0 where
  pub node : ℕ
  pub succs : List ℕ
  pub begun : ℕ

-- the entries, and the frames, of which each stands at the position of an entry
pub record Stack : Type 0 where
  pub entries : List Entry
  pub frames : List Frame

-- how many entries
unfoldable pub size : Stack → ℕ
size s = length s.entries

-- how many frames
unfoldable pub height : Stack → ℕ
height s = length s.frames

-- the top frame
abbrev pub top : Stack → ℕ
top s = height s - 1

-- the node of entry i
unfoldable pub node : Stack → ℕ → ℕ
node s i = (slice_index_or s.entries i (record { node = 0; succs = []; begun = 0 })).node

-- the successors of entry i
unfoldable pub succs : Stack → ℕ → List ℕ
succs s i = (slice_index_or s.entries i (record { node = 0; succs = []; begun = 0 })).succs

-- how many successors of entry i have begun
unfoldable pub begun : Stack → ℕ → ℕ
begun s i = (slice_index_or s.entries i (record { node = 0; succs = []; begun = 0 })).begun

-- successor k of entry i
abbrev pub target : Stack → ℕ → ℕ → ℕ
target s i k = slice_index (succs s i) k

-- the position of frame j, and the number of entries past the last frame: segment j runs from position j up to position j + 1
unfoldable pub position : Stack → ℕ → ℕ
position s j = (slice_index_or s.frames j (record { position = length s.entries; low = 0 })).position

-- the low of frame j
unfoldable pub low : Stack → ℕ → ℕ
low s j = (slice_index_or s.frames j (record { position = 0; low = 0 })).low

-- the first frame stands at the first entry, positions rise and are those of entries, and no low is above its frame's position;
-- a frame below the top has begun a successor, and no more have begun than there are
pub record IsShaped (s : Stack) : Type 0 where
  pub first : position s 0 ≡ 0
  pub rises : (j : ℕ) → j < height s → position s j < position s (j + 1)
  pub low_le : (j : ℕ) → j < height s → low s j ≤ position s j
  pub begins : (j : ℕ) → j + 1 < height s → 0 < begun s (position s j)
  pub begun_le : (i : ℕ) → i < size s → begun s i ≤ length (succs s i)
