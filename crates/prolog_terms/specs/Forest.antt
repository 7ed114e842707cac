-- Terms as one list of nodes, each behind its parts.
use Rattle.std.specs.Prelude.{ℕ, zero, suc, List, [], ◌∷◌, fold}
use Rattle.prolog_names.specs.Names.{name_at}
use Rattle.prolog_terms.specs.declared.term.Span.{Span}
use Rattle.prolog_terms.specs.declared.node.Node.{Node}
use Rattle.prolog_terms.specs.declared.node.Shape.{Shape}
use Rattle.prolog_terms.specs.declared.node.Shape.TheVariants.{Var, Const, Atom, Compound, List as Listed, Tailed, Curly, Paren}
use Rattle.prolog_terms.specs.Tree.{Tree, Trees, variable, constant, atom, compound, listed, tailed as with_tail, curly, paren, none, more}

-- the last of the trees, of which the last comes first; where there is none, a variable
abbrev pub last_of : List Tree → Tree
last_of [] = variable (record { from = 0; to = 0 })
last_of (tree ∷ trees) = tree

-- those before the last
abbrev pub before_last : List Tree → List Tree
before_last [] = []
before_last (tree ∷ trees) = trees

-- so many of the last trees, in their order and before the parts behind them
abbrev pub parts_of : ℕ → List Tree → Trees → Trees
parts_of zero trees behind = behind
parts_of (suc n) trees behind = parts_of n (before_last trees) (more (last_of trees) behind)

-- the trees before so many of the last
abbrev pub without : ℕ → List Tree → List Tree
without zero trees = trees
without (suc n) trees = without n (before_last trees)

-- how many of the trees before it are parts of a node
abbrev pub taken : Shape → ℕ
taken (Compound name count form) = count
taken (Listed count) = count
taken (Tailed count) = suc count
taken Curly = 1
taken Paren = 1
taken shape = 0

-- the tree of a node behind these trees
abbrev pub node_tree : List (List ℕ) → Shape → Span → List Tree → Tree
node_tree names Var span trees = variable span
node_tree names (Const kind minus value) span trees = constant kind minus value span
node_tree names (Atom name) span trees = atom (name_at names name) span
node_tree names (Compound name count form) span trees = compound (name_at names name) (parts_of count trees none) form span
node_tree names (Listed count) span trees = listed (parts_of count trees none) span
node_tree names (Tailed count) span trees = with_tail (parts_of count (before_last trees) none) (last_of trees) span
node_tree names Curly span trees = curly (last_of trees) span
node_tree names Paren span trees = paren (last_of trees) span

-- the trees with one node more
abbrev pub step : List (List ℕ) → List Tree → Node → List Tree
step names trees node = node_tree names node.shape node.span trees ∷ without (taken node.shape) trees

-- the trees of the nodes, the last first
abbrev pub forest : List (List ℕ) → List Node → List Tree
forest names nodes = fold (step names) [] nodes
