-- What a search in breadth ends with.
use Rattle.std.specs.Prelude.{ℕ, ◌<◌, Bool, List, Option, None, Some, length, slice_index}
use Rattle.graph_law.specs.Graph.{Calls}
use Rattle.loop_paths.specs.Grown.{IsGrown}

-- the first node that calls `to` stands at the place; or all that is reached is opened, and no node calls it
abbrev pub IsFound : List (List ℕ) → ℕ → ℕ → List ℕ → List ℕ → List Bool → Option ℕ → Type 0
IsFound lists from to nodes callers seen None = IsGrown (Calls lists) from to nodes callers seen (length nodes)
IsFound lists from to nodes callers seen (Some place) =
    IsGrown (Calls lists) from to nodes callers seen place × (place < length nodes) × Calls lists (slice_index nodes place) to
