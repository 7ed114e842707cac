-- What some nodes are as terms: the rows of the definitions of nodes.
use Rattle.std.proofs.Common.{◌≡◌, ℕ, ◌+◌, ◌-◌, List, [], ◌∷◌, ◌++◌, fold, take, refl, codes}
use Rattle.prolog_terms.specs.declared.node.Node.{Node}
use Rattle.prolog_terms.specs.declared.node.Shape.{Shape}
use Rattle.prolog_terms.specs.declared.node.Shape.TheVariants as shape
use Rattle.prolog_terms.specs.declared.term.Span.{Span}
use Rattle.prolog_terms.specs.declared.term.Form.TheVariants.{Functional, Infix}
use Rattle.prolog_terms.specs.Tree.{Tree, variable, atom, compound, listed, tailed, curly, none, more}
use Rattle.prolog_terms.specs.Forest.{before_last, forest, step, taken}
use Rattle.prolog_terms.specs.Sized.{filled}
use Rattle.prolog_terms.specs.Terms.{tree_in, root_tree, parts_in}

abbrev at : ℕ → Span
at from = record { from = from; to = from + 1 }

abbrev node : Shape → ℕ → ℕ → Node
node shape from size = record { shape = shape; span = at from; size = size }

abbrev names : List (List ℕ)
names = [] ∷ codes "," ∷ codes "a" ∷ codes "f" ∷ []

-- `a, f(X)`: the nodes of `a`, `X`, `f` and the comma
abbrev joined_goals : List Node
joined_goals = node (shape.Atom 2) 0 1 ∷ node shape.Var 5 1 ∷ node (shape.Compound 3 1 Functional) 3 2 ∷ node (shape.Compound 1 2 Infix) 0 4 ∷ []

abbrev call_f : Tree
call_f = compound (codes "f") (more (variable (at 5)) none) Functional (at 3)

whole : root_tree names joined_goals ≡ compound (codes ",") (more (atom (codes "a") (at 0)) (more call_f none)) Infix (at 0)
whole = refl

-- of the first three nodes the last is `f(X)`, and `a` stands before it
three_of_them : forest names (take 3 joined_goals) ≡ call_f ∷ atom (codes "a") (at 0) ∷ []
three_of_them = refl

-- without as many nodes as its size, what stood before it is left
one_left : forest names (take (3 - 2) joined_goals) ≡ before_last (forest names (take 3 joined_goals))
one_left = refl

none_left : forest names (take (4 - 4) joined_goals) ≡ before_last (forest names (take 4 joined_goals))
none_left = refl

both_sides : parts_in names joined_goals 3 2 ≡ more (atom (codes "a") (at 0)) (more call_f none)
both_sides = refl

-- `[a|X]`: the tail comes last
with_a_tail : root_tree names (node (shape.Atom 2) 1 1 ∷ node shape.Var 3 1 ∷ node (shape.Tailed 1) 0 3 ∷ []) ≡ tailed (more (atom (codes "a") (at 1)) none) (variable (at 3)) (at 0)
with_a_tail = refl

takes_its_tail : taken (shape.Tailed 1) ≡ 2
takes_its_tail = refl

-- a part that is missing is a variable at 0
missing_part : root_tree names (node (shape.List 1) 0 2 ∷ []) ≡ listed (more (variable (record { from = 0; to = 0 })) none) (at 0)
missing_part = refl

-- more nodes than there are are all of them
beyond_the_end : tree_in names joined_goals 9 ≡ root_tree names joined_goals
beyond_the_end = refl

-- a tree that stands before nodes stays as it is, unless a part of them is missing, which it is then

abbrev before : Tree
before = atom (codes "f") (at 9)

before_whole_nodes : fold (step names) (before ∷ []) joined_goals ≡ forest names joined_goals ++ before ∷ []
before_whole_nodes = refl

before_a_missing_part : fold (step names) (before ∷ []) (node shape.Curly 0 2 ∷ []) ≡ curly before (at 0) ∷ []
before_a_missing_part = refl

-- of two trees one is missing
one_filled_in : filled 2 (before ∷ []) ≡ before ∷ variable (record { from = 0; to = 0 }) ∷ []
one_filled_in = refl
