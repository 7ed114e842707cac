-- The words of the nodes of a search.
use Rattle.std.specs.Prelude.{◌≡◌, ℕ, List, length, slice_index_or}
use Rattle.search_stack.specs.Stack.{Stack}
use Rattle.search_stack.specs.GoodSearch.{StandsIn}

-- the nodes on the stack from position `from` to `upto`, exclusive, have the word, and the others
-- have what they had
pub record AreWritten (s : Stack) (from upto word : ℕ) (old new : List ℕ) : Type 0 where
  pub each : length new ≡ length old
  pub written : (v : ℕ) → StandsIn s from upto v → slice_index_or new v 0 ≡ word
  pub kept : (v : ℕ) → (StandsIn s from upto v → ⊥) → slice_index_or new v 0 ≡ slice_index_or old v 0
