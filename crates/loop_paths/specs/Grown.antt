-- What a search in breadth has met, in the order of the least paths.
use Rattle.std.specs.Prelude.{◌≡◌, ℕ, ◌<◌, ◌≤◌, ◌⊎◌, Bool, true, false, List, [], ◌∷◌, ◌++◌, length, slice_index, slice_index_or, Contains}
use Rattle.loop_paths.specs.Lists.{IsLess}
use Rattle.loop_paths.specs.Paths.{IsPath}

-- the path at a place
abbrev pub path_at : List (List ℕ) → ℕ → List ℕ
path_at paths i = slice_index_or paths i []

abbrev pub IsAtMost : List ℕ → List ℕ → Type 0
IsAtMost xs ys = IsLess xs ys ⊎ (xs ≡ ys)

-- q was met, by a path that is at most this one
pub record IsMet (nodes : List ℕ) (paths : List (List ℕ)) (q : ℕ) (bound : List ℕ) : Type 0 where
  pub place : ℕ
  pub within : place < length nodes
  pub is : slice_index nodes place ≡ q
  pub at_most : IsAtMost (path_at paths place) bound

-- each node but the first has an earlier one as its caller, and its path is the path of that one and the node; the paths ascend
pub record IsTree (calls : ℕ → ℕ → Type 0) (from : ℕ) (nodes callers : List ℕ) (paths : List (List ℕ)) : Type 0 where
  pub some : 0 < length nodes
  pub a_caller_each : length callers ≡ length nodes
  pub a_path_each : length paths ≡ length nodes
  pub begins : slice_index nodes 0 ≡ from
  pub first : path_at paths 0 ≡ from ∷ []
  pub before : (i : ℕ) → 0 < i → i < length nodes → slice_index callers i < i
  pub on : (i : ℕ) → 0 < i → i < length nodes → path_at paths i ≡ path_at paths (slice_index callers i) ++ slice_index nodes i ∷ []
  pub walks : (i : ℕ) → i < length nodes → IsPath calls from (slice_index nodes i) (path_at paths i)
  pub ordered : (i j : ℕ) → i < j → j < length nodes → IsLess (path_at paths i) (path_at paths j)

-- just the nodes that were met are marked
pub record AreSeen (nodes : List ℕ) (seen : List Bool) : Type 0 where
  pub marked : (q : ℕ) → Contains nodes q → slice_index_or seen q false ≡ true
  pub met : (q : ℕ) → slice_index_or seen q false ≡ true → Contains nodes q

-- the nodes before this place are opened, and none of them calls `to`
pub record IsGrown (calls : ℕ → ℕ → Type 0) (from to : ℕ) (nodes callers : List ℕ) (seen : List Bool) (place : ℕ) : Type 0 where
  pub paths : List (List ℕ)
  pub tree : IsTree calls from nodes callers paths
  pub upto : place ≤ length nodes
  pub callers_before : (i : ℕ) → 0 < i → i < length nodes → slice_index callers i < place
  pub seen_are : AreSeen nodes seen
  pub opened : (k q : ℕ) → k < place → calls (slice_index nodes k) q → IsMet nodes paths q (path_at paths k ++ q ∷ [])
  pub not_yet : (k : ℕ) → k < place → calls (slice_index nodes k) to → ⊥
