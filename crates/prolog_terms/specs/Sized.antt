-- Nodes with their sizes.
use Rattle.std.specs.Prelude.{◌≡◌, ℕ, zero, suc, ◌+◌, ◌-◌, ◌<◌, ◌≤◌, List, ◌∷◌, ◌++◌, Some, fold, length, take, slice_get}
use Rattle.prolog_terms.specs.declared.node.Node.{Node}
use Rattle.prolog_terms.specs.declared.node.TheConstants.{MANY}
use Rattle.prolog_terms.specs.Tree.{Tree}
use Rattle.prolog_terms.specs.Forest.{before_last, last_of, step, forest}

-- without so many nodes as the last one's size, where that counts them all, its tree is gone and what stood before it is left
pub record IsSized (nodes : List Node) : Type 0 where
  pub within : (at : ℕ) (node : Node) → slice_get nodes at ≡ Some node → node.size < MANY → node.size ≤ at + 1
  pub leads : (at : ℕ) (node : Node) → slice_get nodes at ≡ Some node → node.size < MANY → (names : List (List ℕ))
      → forest names (take (at + 1 - node.size) nodes) ≡ before_last (forest names (take (at + 1) nodes))

-- whatever trees stand before the nodes, so many of the nodes leave them as they are
pub record AreWhole (nodes : List Node) : Type 0 where
  pub leaves : (names : List (List ℕ)) (before : List Tree) (end : ℕ) → fold (step names) before (take end nodes) ≡ forest names (take end nodes) ++ before

-- the nodes are so many terms side by side, with their sizes
pub record AreTerms (nodes : List Node) (terms : ℕ) : Type 0 where
  pub sized : IsSized nodes
  pub whole : AreWhole nodes
  pub count : (names : List (List ℕ)) → length (forest names nodes) ≡ terms

-- the trees, with variables at 0 before the first until there are so many
abbrev pub filled : ℕ → List Tree → List Tree
filled zero trees = trees
filled (suc n) trees = last_of trees ∷ filled n (before_last trees)
