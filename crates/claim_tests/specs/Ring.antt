-- The graph of the tests.
use Rattle.std.specs.Prelude.{ℕ, List, [], ◌∷◌}

-- a ring of three nodes
abbrev pub ring_lists : List (List ℕ)
ring_lists = (1 ∷ []) ∷ (2 ∷ []) ∷ (0 ∷ []) ∷ []
