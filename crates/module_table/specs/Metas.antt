-- Declarations of the arguments of predicates that are goals.
use Rattle.std.specs.Prelude.{ℕ, ◌≤◌, List, [], ◌∷◌, ◌++◌, Option, Some, None, Bool, false, nat_le, if◌then◌else◌, codes, map}
use Rattle.std.specs.Str.{bytes_eq}
use Rattle.prolog_terms.specs.declared.term.ConstKind.{ConstKind}
use Rattle.prolog_terms.specs.declared.term.ConstKind.TheVariants.{Integer}
use Rattle.prolog_terms.specs.Tree.{Tree, Trees, constant, atom, compound, listed, paren, more, none}
use Rattle.prolog_terms.specs.Views.{inside, trees_in, atom_name}
use Rattle.module_table.specs.declared.goal_arg.GoalArg.{GoalArg}
use Rattle.module_table.specs.declared.goal_arg.GoalArg.TheVariants.{Plain, Goal, Caret, Grammar}
use Rattle.module_table.specs.declared.meta.Meta.{Meta}

-- how many arguments are added to those that are written
abbrev pub added : GoalArg → ℕ
added Plain = 0
added (Goal e) = e
added Caret = 0
added Grammar = 2

-- a number of added arguments is one digit
abbrev pub most_added : ℕ
most_added = 9

abbrev pub digit_arg : ConstKind → Bool → Option ℕ → GoalArg
digit_arg Integer false (Some n) = if nat_le n most_added then Goal n else Plain
digit_arg _ _ _ = Plain

abbrev pub name_arg : List ℕ → GoalArg
name_arg name = if bytes_eq name (codes "^") then Caret else if bytes_eq name (codes "//") then Grammar else Plain

abbrev pub goal_arg_at : Tree → GoalArg
goal_arg_at (constant kind minus value span) = digit_arg kind minus value
goal_arg_at (atom name span) = name_arg name
goal_arg_at _ = Plain

-- what the argument of a declaration says of the argument that stands there in a goal
abbrev pub goal_arg : Tree → GoalArg
goal_arg tree = goal_arg_at (inside tree)

-- a declaration for a predicate of a module, with its offset
pub record Declaration : Type 0 where
  pub module_ : List ℕ
  pub name : List ℕ
  pub args : List GoalArg
  pub from : ℕ

abbrev pub taking : List ℕ → List ℕ → Trees → ℕ → List Declaration
taking owner name args from = record { module_ = owner; name = name; args = map goal_arg (trees_in args); from = from } ∷ []

-- what `meta_predicate` declares in a module, in the order of the text: by terms that commas join, by the items of a list,
-- by `M:S` for the module M, and by any other compound
abbrev mutual
  pub takes_of : List ℕ → Tree → List Declaration
  takes_of owner (compound name (more left (more right none)) form span) =
      if bytes_eq name (codes ",") then takes_of owner left ++ takes_of owner right
      else if bytes_eq name (codes ":") then elim (atom_name left) [ Some own ↦ takes_of own right | None ↦ [] ]
      else taking owner name (more left (more right none)) span.from
  takes_of owner (compound name args form span) = taking owner name args span.from
  takes_of owner (listed items span) = all_takes owner items
  takes_of owner (paren inner span) = takes_of owner inner
  takes_of owner tree = []

  pub all_takes : List ℕ → Trees → List Declaration
  all_takes owner none = []
  all_takes owner (more tree trees) = takes_of owner tree ++ all_takes owner trees

-- no more than nine arguments are added to a goal
abbrev pub IsSmall : GoalArg → Type 0
IsSmall arg = added arg ≤ most_added

abbrev pub see_meta : Meta → Declaration
see_meta m = record { module_ = m.module; name = m.name; args = m.args.items; from = m.from }
