-- How the steps of a search change its stack, place by place.
use Rattle.std.proofs.Common.{◌≡◌, ℕ, ◌<◌, ◌≤◌, ◌+◌, min, List}
use Rattle.search_stack.specs.Stack.{Stack, size, height, node, succs, begun, position, low}

-- t is s with an entry of v and a frame for it on top
pub record Pushes (s t : Stack) (v : ℕ) (list : List ℕ) : Type 0 where
  pub size_is : size t ≡ size s + 1
  pub height_is : height t ≡ height s + 1
  pub position_is : (j : ℕ) → j ≤ height s → position t j ≡ position s j
  pub low_is : (j : ℕ) → j < height s → low t j ≡ low s j
  pub low_new : low t (height s) ≡ size s
  pub node_is : (i : ℕ) → i < size s → node t i ≡ node s i
  pub node_new : node t (size s) ≡ v
  pub succs_is : (i : ℕ) → i < size s → succs t i ≡ succs s i
  pub succs_new : succs t (size s) ≡ list
  pub begun_is : (i : ℕ) → i < size s → begun t i ≡ begun s i
  pub begun_new : begun t (size s) ≡ 0

-- one more edge has begun at the place
pub record Begins (s t : Stack) (place : ℕ) : Type 0 where
  pub size_is : size t ≡ size s
  pub height_is : height t ≡ height s
  pub position_is : (j : ℕ) → position t j ≡ position s j
  pub low_is : (j : ℕ) → low t j ≡ low s j
  pub node_is : (i : ℕ) → node t i ≡ node s i
  pub succs_is : (i : ℕ) → succs t i ≡ succs s i
  pub begun_is : (i : ℕ) → (i ≡ place → ⊥) → begun t i ≡ begun s i
  pub begun_one_more : begun t place ≡ begun s place + 1

-- the low of a frame is the lesser of itself and the place
pub record Lowers (s t : Stack) (frame place : ℕ) : Type 0 where
  pub size_is : size t ≡ size s
  pub height_is : height t ≡ height s
  pub position_is : (j : ℕ) → position t j ≡ position s j
  pub low_is : (j : ℕ) → (j ≡ frame → ⊥) → low t j ≡ low s j
  pub low_new : low t frame ≡ min (low s frame) place
  pub node_is : (i : ℕ) → node t i ≡ node s i
  pub succs_is : (i : ℕ) → succs t i ≡ succs s i
  pub begun_is : (i : ℕ) → begun t i ≡ begun s i

-- the frame above this one, which was the top, is gone, and this one has the lesser low
pub record Retreats (s t : Stack) (frame : ℕ) : Type 0 where
  pub is_second : frame + 2 ≡ height s
  pub size_is : size t ≡ size s
  pub height_is : height t ≡ frame + 1
  pub position_is : (j : ℕ) → j ≤ frame → position t j ≡ position s j
  pub low_is : (j : ℕ) → j < frame → low t j ≡ low s j
  pub low_new : low t frame ≡ min (low s frame) (low s (frame + 1))
  pub node_is : (i : ℕ) → node t i ≡ node s i
  pub succs_is : (i : ℕ) → succs t i ≡ succs s i
  pub begun_is : (i : ℕ) → begun t i ≡ begun s i

-- t is the part of s below a frame
pub record Keeps (s t : Stack) (frame : ℕ) : Type 0 where
  pub within : frame < height s
  pub size_is : size t ≡ position s frame
  pub height_is : height t ≡ frame
  pub position_is : (j : ℕ) → j ≤ frame → position t j ≡ position s j
  pub low_is : (j : ℕ) → j < frame → low t j ≡ low s j
  pub node_is : (i : ℕ) → i < position s frame → node t i ≡ node s i
  pub succs_is : (i : ℕ) → i < position s frame → succs t i ≡ succs s i
  pub begun_is : (i : ℕ) → i < position s frame → begun t i ≡ begun s i

-- t is s with the part of d from a frame on on top of it
pub record Joins (s d t : Stack) (frame : ℕ) : Type 0 where
  pub within : frame < height d
  pub size_is : size t + position d frame ≡ size s + size d
  pub height_is : height t + frame ≡ height s + height d
  pub position_is : (j : ℕ) → j < height s → position t j ≡ position s j
  pub position_new : (j b : ℕ) → j + frame ≡ height s + b → frame ≤ b → b ≤ height d
      → position t j + position d frame ≡ size s + position d b
  pub low_is : (j : ℕ) → j < height s → low t j ≡ low s j
  pub low_new : (j b : ℕ) → j + frame ≡ height s + b → frame ≤ b → b < height d → position d frame ≤ low d b
      → low t j + position d frame ≡ size s + low d b
  pub node_is : (i : ℕ) → i < size s → node t i ≡ node s i
  pub node_new : (i p : ℕ) → i + position d frame ≡ size s + p → position d frame ≤ p → p < size d → node t i ≡ node d p
  pub succs_is : (i : ℕ) → i < size s → succs t i ≡ succs s i
  pub succs_new : (i p : ℕ) → i + position d frame ≡ size s + p → position d frame ≤ p → p < size d → succs t i ≡ succs d p
  pub begun_is : (i : ℕ) → i < size s → begun t i ≡ begun s i
  pub begun_new : (i p : ℕ) → i + position d frame ≡ size s + p → position d frame ≤ p → p < size d → begun t i ≡ begun d p
