-- Marks on the nodes that are reached.
use Rattle.std.specs.Prelude.{◌≡◌, ℕ, ◌<◌, ◌^◌, Bool, true, false, List, [], ◌∷◌, length, slice_index_or, All, Contains}
use Rattle.std.specs.List.Sorted.{IsStrictlyIncreasing}
use Rattle.graph_law.specs.Reach.{IsReached}

-- each of the nodes is marked just where one of the starts reaches it, and no other is reached
pub record AreReached (calls : ℕ → ℕ → Type 0) (count : ℕ) (starts : List ℕ) (marks : List Bool) : Type 0 where
  pub each : length marks ≡ count
  pub sound : (q : ℕ) → slice_index_or marks q false ≡ true → IsReached calls starts q
  pub all : (q : ℕ) → IsReached calls starts q → slice_index_or marks q false ≡ true

-- there are rows for the first nodes, and the row of a node marks what it reaches
pub record AreRows (calls : ℕ → ℕ → Type 0) (count first : ℕ) (rows : List (List Bool)) : Type 0 where
  pub each : length rows ≡ first
  pub row : (p : ℕ) → p < first → AreReached calls count (p ∷ []) (slice_index_or rows p [])

-- as many marks in each row as there are rows, which a `u32` counts
pub record IsSquare (rows : List (List Bool)) : Type 0 where
  pub each : All (λ row. length row ≡ length rows) rows
  pub small : length rows < 2 ^ 32

-- the row of p marks q
abbrev pub Marks : List (List Bool) → ℕ → ℕ → Type 0
Marks rows p q = slice_index_or (slice_index_or rows p []) q false ≡ true

-- the rows of p and q mark each other
abbrev pub MarkEachOther : List (List Bool) → ℕ → ℕ → Type 0
MarkEachOther rows p q = Marks rows p q × Marks rows q p

-- a node below this one is marked with it
pub record HasEarlier (rows : List (List Bool)) (node : ℕ) : Type 0 where
  pub earlier : ℕ
  pub below : earlier < node
  pub marked : MarkEachOther rows node earlier

-- the nodes below the bound that are marked with this one, ascending
pub record AreMarkedWith (rows : List (List Bool)) (node bound : ℕ) (class : List ℕ) : Type 0 where
  pub ascending : IsStrictlyIncreasing class
  pub below : All (λ q. q < bound) class
  pub marked : All (MarkEachOther rows node) class
  pub all : (q : ℕ) → q < bound → MarkEachOther rows node q → Contains class q
