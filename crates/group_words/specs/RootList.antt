-- The predicates that a list of roots names.
use Rattle.std.specs.Prelude.{◌≡◌, ℕ, ◌≤◌, List, [], ◌∷◌, ◌++◌, Option, Some, None, Bool, true, false, length, map, codes}
use Rattle.prolog_tokens.specs.declared.token.Token.{Token}
use Rattle.prolog_tokens.specs.Cut.{IsCut}
use Rattle.prolog_terms.specs.Tree.{Tree, constant}
use Rattle.prolog_terms.specs.declared.term.ConstKind.TheVariants.{Integer}
use Rattle.prolog_terms.specs.Views.{inside, sides_of, joined, atom_name}
use Rattle.prolog_terms.specs.Terms.{root_tree}
use Rattle.prolog_terms.specs.Words.{table_of}
use Rattle.prolog_terms.specs.Clause.{IsClauseOf}
use Rattle.clause_text.specs.Clauses.{opening_ops}
use Rattle.import_rules.specs.declared.names.PredName.{PredName}
use Rattle.import_rules.specs.Names.{pred_name}
use Rattle.group_words.specs.declared.limits.TheConstants.{MOST_LIST}
use Rattle.group_words.specs.declared.root_list.ListTerm.{ListTerm}

-- the tree of a list
abbrev pub list_tree : ListTerm → Tree
list_tree list = root_tree list.names list.nodes

abbrev pub named : Option (List ℕ) → Option (List ℕ) → Option ℕ → Option PredName
named (Some own) (Some name) (Some arity) = Some (pred_name own name arity)
named own name arity = None

-- an arity is an integer without minus that isn't too large to have a value
abbrev pub arity_at : Tree → Option ℕ
arity_at (constant Integer false value span) = value
arity_at tree = None

abbrev pub arity_of : Tree → Option ℕ
arity_of tree = arity_at (inside tree)

-- `N`, of the module `user`, or `M:N`
abbrev pub with_sides : Option (Tree × Tree) → Tree → Tree → Option PredName
with_sides (Some sides) left right = named (atom_name sides.0) (atom_name sides.1) (arity_of right)
with_sides None left right = named (Some (codes "user")) (atom_name left) (arity_of right)

abbrev pub named_by : Option (Tree × Tree) → Option PredName
named_by (Some sides) = with_sides (sides_of (codes ":") sides.0) sides.0 sides.1
named_by None = None

-- `N/A` or `M:N/A`
abbrev pub named_predicate : Tree → Option PredName
named_predicate tree = named_by (sides_of (codes "/") tree)

-- all of them, where each is there
abbrev pub all_there : {A : Type 0} → List (Option A) → Option (List A)
all_there [] = Some []
all_there (None ∷ more) = None
all_there (Some x ∷ more) = elim (all_there more) [ Some xs ↦ Some (x ∷ xs) | None ↦ None ]

-- what is read: the list, and the end of a clause
abbrev pub list_text : List ℕ → List ℕ
list_text text = text ++ codes " ."

-- the list is one term under the operators that each text begins with
pub record IsList (text : List ℕ) (tree : Tree) : Type 0 where
  pub tokens : List Token
  pub cut : IsCut (list_text text) tokens
  pub clause : IsClauseOf (table_of opening_ops) (list_text text) tokens tree

-- the list isn't too long, and its term is predicates that commas join
pub record IsRootList (text : List ℕ) (roots : List PredName) : Type 0 where
  pub small : length text ≤ MOST_LIST
  pub tree : Tree
  pub list : IsList text tree
  pub are : all_there (map named_predicate (joined tree)) ≡ Some roots

-- the predicates that are there were put behind those before, or one isn't there
abbrev pub AddsRoots : List PredName → List PredName → Bool → Option (List PredName) → Type 0
AddsRoots before after true found = (roots : List PredName) × (found ≡ Some roots) × (after ≡ before ++ roots)
AddsRoots before after false found = found ≡ None
