-- The nodes whose reach is reported.
use Rattle.std.specs.Prelude.{◌≡◌, ℕ, ◌<◌, List, [], ◌∷◌, length, map, All, Contains}
use Rattle.std.specs.List.{range_with_len}
use Rattle.byte_names.specs.Names.{name_at}
use Rattle.component_answer.specs.declared.starts.Starts.{Starts}
use Rattle.component_answer.specs.declared.starts.Starts.TheVariants.{Nodes, Missing}

-- the number of the node of that name
pub record IsNodeNamed (names : List (List ℕ)) (name : List ℕ) (node : ℕ) : Type 0 where
  pub within : node < length names
  pub is : name_at names node ≡ name

-- the nodes of these names, in order
pub record AreNamed (names roots : List (List ℕ)) (starts : List ℕ) : Type 0 where
  pub within : All (λ start. start < length names) starts
  pub named : map (name_at names) starts ≡ roots

-- the nodes of the roots, or all nodes where there are no roots
abbrev pub AreStarts : List (List ℕ) → List (List ℕ) → List ℕ → Type 0
AreStarts names [] starts = starts ≡ range_with_len 0 (length names)
AreStarts names (root ∷ roots) starts = AreNamed names (root ∷ roots) starts

-- the first of the roots that is no node
pub record IsFirstMissing (names roots : List (List ℕ)) (place : ℕ) : Type 0 where
  pub within : place < length roots
  pub missing : Contains names (name_at roots place) → ⊥
  pub before : (k : ℕ) → k < place → Contains names (name_at roots k)

abbrev pub AreNamedBy : List (List ℕ) → List (List ℕ) → Starts → Type 0
AreNamedBy names roots (Nodes starts) = AreNamed names roots starts.items
AreNamedBy names roots (Missing place) = IsFirstMissing names roots place

abbrev pub AreStartsOf : List (List ℕ) → List (List ℕ) → Starts → Type 0
AreStartsOf names roots (Nodes starts) = AreStarts names roots starts.items
AreStartsOf names roots (Missing place) = IsFirstMissing names roots place
