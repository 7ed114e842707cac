-- What terms are, with the brackets round them and round their parts passed through.
use Rattle.std.specs.Prelude.{ℕ, List, [], ◌∷◌, ◌++◌, Option, Some, None, if◌then◌else◌, codes}
use Rattle.std.specs.Str.{bytes_eq}
use Rattle.prolog_terms.specs.Tree.{Tree, Trees, atom, compound, paren, more, none, count, span_of}

-- the term in all brackets round it
abbrev pub inside : Tree → Tree
inside (paren inner span) = inside inner
inside tree = tree

-- where the term in all brackets round it starts
abbrev pub start_of : Tree → ℕ
start_of tree = (span_of (inside tree)).from

-- the trees, as a list
abbrev pub trees_in : Trees → List Tree
trees_in none = []
trees_in (more tree trees) = tree ∷ trees_in trees

-- one tree, two or three, where there are so many

abbrev pub only_of : Trees → Option Tree
only_of (more tree none) = Some tree
only_of trees = None

abbrev pub pair_of : Trees → Option (Tree × Tree)
pair_of (more left (more right none)) = Some (left, right)
pair_of trees = None

abbrev pub triple_of : Trees → Option (Tree × Tree × Tree)
triple_of (more first (more second (more third none))) = Some (first, second, third)
triple_of trees = None

-- a compound of two arguments, in any notation
pub record Binary : Type 0 where
  pub name : List ℕ
  pub left : Tree
  pub right : Tree

abbrev pub binary_at : Tree → Option Binary
binary_at (compound name (more left (more right none)) form span) = Some (record { name = name; left = left; right = right })
binary_at tree = None

abbrev pub binary : Tree → Option Binary
binary tree = binary_at (inside tree)

-- the two arguments of a compound of that name
abbrev pub sides_named : List ℕ → Option Binary → Option (Tree × Tree)
sides_named name (Some pair) = if bytes_eq pair.name name then Some (pair.left, pair.right) else None
sides_named name None = None

abbrev pub sides_at : List ℕ → Tree → Option (Tree × Tree)
sides_at name tree = sides_named name (binary_at tree)

abbrev pub sides_of : List ℕ → Tree → Option (Tree × Tree)
sides_of name tree = sides_at name (inside tree)

-- the terms that commas join, in order
abbrev pub joined : Tree → List Tree
joined (compound name (more left (more right none)) form span) =
    if bytes_eq name (codes ",") then joined left ++ joined right else compound name (more left (more right none)) form span ∷ []
joined (paren inner span) = joined inner
joined tree = tree ∷ []

-- the name and the number of arguments of an atom or a compound
pub record Named : Type 0 where
  pub name : List ℕ
  pub arity : ℕ

abbrev pub named_at : Tree → Option Named
named_at (atom name span) = Some (record { name = name; arity = 0 })
named_at (compound name args form span) = Some (record { name = name; arity = count args })
named_at tree = None

abbrev pub name_and_arity : Tree → Option Named
name_and_arity tree = named_at (inside tree)

-- the name and the arguments of an atom or a compound: an atom has none
pub record Parted : Type 0 where
  pub name : List ℕ
  pub args : Trees

abbrev pub parted_at : Tree → Option Parted
parted_at (atom name span) = Some (record { name = name; args = none })
parted_at (compound name args form span) = Some (record { name = name; args = args })
parted_at tree = None

abbrev pub name_and_args : Tree → Option Parted
name_and_args tree = parted_at (inside tree)

-- the name of an atom
abbrev pub name_at : Tree → Option (List ℕ)
name_at (atom name span) = Some name
name_at tree = None

abbrev pub atom_name : Tree → Option (List ℕ)
atom_name tree = name_at (inside tree)
