-- Who reaches whom by calls. `calls p q` says that p calls q, over any relation of nodes.
use Rattle.std.specs.Prelude.{◌≡◌, ℕ, List, [], ◌∷◌, Contains}

-- the nodes of the path, one after another, lead from p to q: each node calls the next
abbrev pub IsWalk : (ℕ → ℕ → Type 0) → ℕ → List ℕ → ℕ → Type 0
IsWalk calls p [] q = p ≡ q
IsWalk calls p (n ∷ path) q = calls p n × IsWalk calls n path q

-- some path leads from p to q; the empty one leads from each node to itself
pub record Reaches (calls : ℕ → ℕ → Type 0) (p q : ℕ) : Type 0 where
  pub path : List ℕ
  pub walk : IsWalk calls p path q

-- one of the starts reaches q
pub record IsReached (calls : ℕ → ℕ → Type 0) (starts : List ℕ) (q : ℕ) : Type 0 where
  pub start : ℕ
  pub is_start : Contains starts start
  pub reaches : Reaches calls start q

-- p and q reach each other
pub record ReachEachOther (calls : ℕ → ℕ → Type 0) (p q : ℕ) : Type 0 where
  pub there : Reaches calls p q
  pub back : Reaches calls q p

-- the two relations have the same calls
pub record Agree (calls also : ℕ → ℕ → Type 0) : Type 0 where
  pub to : (p q : ℕ) → calls p q → also p q
  pub from : (p q : ℕ) → also p q → calls p q
