-- The graphs of the tests.
use Rattle.std.specs.Prelude.{ℕ, List, [], ◌∷◌}

-- a ring of 0 and 1, of which 1 calls 2 too, and 3, which calls 0
abbrev pub tailed_ring_lists : List (List ℕ)
tailed_ring_lists = (1 ∷ []) ∷ (2 ∷ 0 ∷ []) ∷ [] ∷ (0 ∷ []) ∷ []
