-- Paths and closed walks, as lists of nodes. `calls p q` says that p calls q.
use Rattle.std.specs.Prelude.{◌≡◌, ℕ, ◌≤◌, List, [], ◌∷◌, length}
use Rattle.graph_law.specs.Reach.{IsWalk}

-- the first node is p, the last is q, and each calls the next
abbrev pub IsPath : (ℕ → ℕ → Type 0) → ℕ → ℕ → List ℕ → Type 0
IsPath calls p q [] = ⊥
IsPath calls p q (n ∷ rest) = (n ≡ p) × IsWalk calls n rest q

-- at least two nodes, the first and the last of which are p, and each calls the next
abbrev pub IsClosedWalk : (ℕ → ℕ → Type 0) → ℕ → List ℕ → Type 0
IsClosedWalk calls p walk = IsPath calls p p walk × (2 ≤ length walk)

-- a path from p whose last node calls q
pub record IsLead (calls : ℕ → ℕ → Type 0) (p q : ℕ) (path : List ℕ) : Type 0 where
  pub last : ℕ
  pub is_path : IsPath calls p last path
  pub call : calls last q
