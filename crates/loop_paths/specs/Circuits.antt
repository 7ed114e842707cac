-- The least paths, and the circuits of groups.
use Rattle.std.specs.Prelude.{◌≡◌, ℕ, ◌<◌, List, [], ◌∷◌, ◌++◌, Option, None, Some, Vec, length, map, option_map, slice_index_or}
use Rattle.graph_law.specs.Classes.{group_at, least_member}
use Rattle.loop_paths.specs.Lists.{IsLeast}
use Rattle.loop_paths.specs.Paths.{IsClosedWalk, IsLead, IsPath}

-- the least path, or none where there is no path
abbrev pub IsShortest : (ℕ → ℕ → Type 0) → ℕ → ℕ → Option (List ℕ) → Type 0
IsShortest calls p q None = (path : List ℕ) → IsPath calls p q path → ⊥
IsShortest calls p q (Some path) = IsLeast (λ each. IsPath calls p q each) path

-- the least closed walk without its last node, or none where there is no closed walk
abbrev pub IsCircuit : (ℕ → ℕ → Type 0) → ℕ → Option (List ℕ) → Type 0
IsCircuit calls p None = (walk : List ℕ) → IsClosedWalk calls p walk → ⊥
IsCircuit calls p (Some circuit) = IsLeast (λ walk. IsClosedWalk calls p walk) (circuit ++ p ∷ [])

-- the circuit of each group's least member
pub record AreCircuits (calls : ℕ → ℕ → Type 0) (groups : List (List ℕ)) (circuits : List (Option (List ℕ))) : Type 0 where
  pub each : length circuits ≡ length groups
  pub at : (i : ℕ) → i < length groups → IsCircuit calls (least_member (group_at groups i)) (slice_index_or circuits i None)

-- the contents of what was found
abbrev pub circuits_of : {A : Type 0} → List (Option (Vec ℕ A)) → List (Option (List ℕ))
circuits_of found = map (λ one. option_map (λ path. path.items) one) found

-- the least path from a node to one that calls it, or none
abbrev pub IsReturn : (ℕ → ℕ → Type 0) → ℕ → Option (List ℕ) → Type 0
IsReturn calls p None = (path : List ℕ) → IsLead calls p p path → ⊥
IsReturn calls p (Some path) = IsLeast (IsLead calls p p) path

-- those of the least members of the first n groups
pub record AreReturns (calls : ℕ → ℕ → Type 0) (groups : List (List ℕ)) (n : ℕ) (found : List (Option (List ℕ))) : Type 0 where
  pub each : length found ≡ n
  pub at : (i : ℕ) → i < n → IsReturn calls (least_member (group_at groups i)) (slice_index_or found i None)
