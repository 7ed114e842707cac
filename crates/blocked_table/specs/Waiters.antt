-- What contracts see of the lists of slots that wait for nodes.
use Rattle.std.specs.Prelude.{◌≡◌, ℕ, ◌+◌, List, length, slice_index_or}

-- nodes are below the count, and the word of a slot is one more than the node that it waits for, or
-- 0
pub record WaitersValue : Type 0 where
  pub count : ℕ
  pub words : List ℕ

-- the slot of which `place` is one more has the word, and the others have what they had
pub record IsWrittenFor (place word : ℕ) (old new : List ℕ) : Type 0 where
  pub each : length new ≡ length old
  pub written : (i : ℕ) → place ≡ i + 1 → slice_index_or new i 0 ≡ word
  pub kept : (i : ℕ) → (place ≡ i + 1 → ⊥) → slice_index_or new i 0 ≡ slice_index_or old i 0
