-- What is met in bodies, as lists: what `Goals` says as a relation.
use Rattle.std.specs.Prelude.{ℕ, ◌+◌, List, [], ◌++◌}
use Rattle.std.specs.Option.{option_to_list}
use Rattle.prolog_terms.specs.Tree.{Tree, Trees, variable, constant, atom, compound, listed, tailed, curly, paren, more, none}
use Rattle.prolog_terms.specs.Views.{trees_in}
use Rattle.call_edges.specs.declared.role.Role.{Role}
use Rattle.call_edges.specs.Goals.{Met, Rows, Taken, taken, met_at, argument_role, curly_role}

-- what is met within a place, in the order of the text
abbrev mutual
  pub mets_in : Rows → List ℕ → Role → Tree → List Met
  mets_in T owner role (variable span) = []
  mets_in T owner role (constant kind minus value span) = option_to_list (met_at T owner role (constant kind minus value span))
  mets_in T owner role (atom name span) = option_to_list (met_at T owner role (atom name span))
  mets_in T owner role (compound name args form span) =
      let apart = taken T span.from owner role name (trees_in args) in option_to_list apart.met ++ mets_among T apart 0 args
  mets_in T owner role (listed items span) = []
  mets_in T owner role (tailed items tail span) = []
  mets_in T owner role (curly inner span) = mets_in T owner (curly_role role) inner
  mets_in T owner role (paren inner span) = mets_in T owner role inner

  pub mets_among : Rows → Taken → ℕ → Trees → List Met
  mets_among T apart i none = []
  mets_among T apart i (more tree trees) = mets_in T apart.module_ (argument_role apart i) tree ++ mets_among T apart (i + 1) trees
