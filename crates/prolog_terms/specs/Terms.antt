-- The trees that terms in a list of nodes are.
use Rattle.std.specs.Prelude.{◌≡◌, ℕ, List, take}
use Rattle.prolog_terms.specs.declared.node.Node.{Node}
use Rattle.prolog_terms.specs.declared.term.Span.{Span}
use Rattle.prolog_terms.specs.declared.term.Term.{Term}
use Rattle.prolog_terms.specs.declared.term.Parts.{Parts}
use Rattle.prolog_terms.specs.declared.term.TermKind.{TermKind}
use Rattle.prolog_terms.specs.declared.term.TermKind.TheVariants.{Var, Const, Atom, Compound, List as Listed, Tailed, Curly, Paren}
use Rattle.prolog_terms.specs.Tree.{Tree, Trees, variable, constant, atom, compound, listed, tailed, curly, paren, none}
use Rattle.prolog_terms.specs.Forest.{last_of, parts_of, node_tree, forest}

-- the tree of the last of so many nodes
abbrev pub tree_in : List (List ℕ) → List Node → ℕ → Tree
tree_in names nodes end = last_of (forest names (take end nodes))

-- the tree of the last node
abbrev pub root_tree : List (List ℕ) → List Node → Tree
root_tree names nodes = last_of (forest names nodes)

-- so many of the last trees of so many nodes
abbrev pub parts_in : List (List ℕ) → List Node → ℕ → ℕ → Trees
parts_in names nodes end count = parts_of count (forest names (take end nodes)) none

abbrev pub tree_of : Term → Tree
tree_of term = tree_in term.names.now term.nodes.now term.end

-- the node is that of the term, behind so many nodes
abbrev pub IsNodeOf : Term → Node → ℕ → Type 0
IsNodeOf term node before = tree_of term ≡ node_tree term.names.now node.shape node.span (forest term.names.now (take before term.nodes.now))

abbrev pub trees_of : Parts → Trees
trees_of parts = parts_in parts.names.now parts.nodes.now parts.end parts.count

-- what a term at a place is, as a tree
abbrev pub kind_tree : TermKind → Span → Tree
kind_tree Var span = variable span
kind_tree (Const kind minus value) span = constant kind minus value span
kind_tree (Atom name) span = atom name.now span
kind_tree (Compound name args form) span = compound name.now (trees_of args) form span
kind_tree (Listed items) span = listed (trees_of items) span
kind_tree (Tailed items tail) span = tailed (trees_of items) (tree_of tail) span
kind_tree (Curly inner) span = curly (tree_of inner) span
kind_tree (Paren inner) span = paren (tree_of inner) span

-- the term, the parts or those of a term are of these nodes

abbrev pub IsOf : List (List ℕ) → List Node → Term → Type 0
IsOf names nodes term = (term.names.now ≡ names) × (term.nodes.now ≡ nodes)

abbrev pub IsPartsOf : List (List ℕ) → List Node → Parts → Type 0
IsPartsOf names nodes parts = (parts.names.now ≡ names) × (parts.nodes.now ≡ nodes)

abbrev pub AreOf : List (List ℕ) → List Node → TermKind → Type 0
AreOf names nodes Var = Unit {0}
AreOf names nodes (Const kind minus value) = Unit {0}
AreOf names nodes (Atom name) = Unit {0}
AreOf names nodes (Compound name args form) = IsPartsOf names nodes args
AreOf names nodes (Listed items) = IsPartsOf names nodes items
AreOf names nodes (Tailed items tail) = IsPartsOf names nodes items × IsOf names nodes tail
AreOf names nodes (Curly inner) = IsOf names nodes inner
AreOf names nodes (Paren inner) = IsOf names nodes inner
