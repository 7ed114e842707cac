-- How many parts stand within a tree.
use Rattle.std.specs.Prelude.{ℕ, ◌+◌, suc}
use Rattle.prolog_terms.specs.Tree.{Tree, Trees, variable, constant, atom, compound, listed, tailed, curly, paren, more, none}

-- how many arguments, items, tails and terms in brackets stand within a tree
abbrev mutual
  pub weight : Tree → ℕ
  weight (variable span) = 0
  weight (constant kind minus value span) = 0
  weight (atom name span) = 0
  weight (compound name args form span) = weights args
  weight (listed items span) = weights items
  weight (tailed items tail span) = suc (weights items + weight tail)
  weight (curly inner span) = suc (weight inner)
  weight (paren inner span) = suc (weight inner)

  pub weights : Trees → ℕ
  weights none = 0
  weights (more tree trees) = suc (weight tree + weights trees)
