-- Where goals stand in a body, and what they call.
use Rattle.std.specs.Prelude.{ℕ, ◌≡◌, ◌+◌, ◌-◌, ◌==◌, ◌&&◌, ◌⊎◌, ◌↔◌, not, List, [], ◌∷◌, Option, Some, None, Bool, true, false, if◌then◌else◌, codes, length}
use Rattle.std.specs.Prelude.{slice_get, slice_index_or, Contains}
use Rattle.std.specs.Str.{bytes_eq}
use Rattle.prolog_terms.specs.declared.term.ConstKind.{ConstKind}
use Rattle.prolog_terms.specs.declared.term.ConstKind.TheVariants.{Integer, Float, Str, BackStr}
use Rattle.prolog_terms.specs.Tree.{Tree, variable, constant, atom, compound, curly, paren}
use Rattle.prolog_terms.specs.Views.{inside, start_of, trees_in, atom_name}
use Rattle.module_table.specs.Heads.{is_among}
use Rattle.module_table.specs.declared.goal_arg.GoalArg.{GoalArg}
use Rattle.module_table.specs.declared.goal_arg.GoalArg.TheVariants.{Plain, Goal, Caret, Grammar}
use Rattle.module_table.specs.Metas.{added}
use Rattle.call_edges.specs.declared.role.Role.{Role}
use Rattle.call_edges.specs.declared.role.Row.{Row}
use Rattle.call_edges.specs.declared.role.Way.{Way}
use Rattle.call_edges.specs.declared.role.Way.TheVariants.{Silent, Behind, Control, Negation, Qualified, Calling}

-- a call of a predicate of a module by its name and arity, with the offset at which its goal starts, how many of its arguments are added to the goal, and
-- whether it is negated; or where a goal stands that isn't callable
pub data Met : Type 0 where
  call : ℕ → List ℕ → List ℕ → ℕ → ℕ → Bool → Met
  fault : ℕ → Met

-- the role of a body, which isn't negated
abbrev pub body_role : GoalArg → Role
body_role arg = record { arg = arg; negated = false }

-- that of a goal, and that of a grammar body

abbrev pub goal_role : Role
goal_role = body_role (Goal 0)

abbrev pub grammar_role : Role
grammar_role = body_role Grammar

-- a term in a body of a module
pub record Place : Type 0 where
  pub module_ : List ℕ
  pub role : Role
  pub tree : Tree

-- the table of the predicates that take goals

abbrev pub first_only : GoalArg → Row
first_only role = record { first = role; second = Plain; third = Plain }

abbrev pub second_only : GoalArg → Row
second_only role = record { first = Plain; second = role; third = Plain }

abbrev pub first_two : GoalArg → Row
first_two role = record { first = role; second = role; third = Plain }

abbrev pub first_and_third : GoalArg → Row
first_and_third role = record { first = role; second = Plain; third = role }

-- `call` and `maplist`, which add all their arguments but the first
abbrev pub adding_row : List ℕ → ℕ → Option Row
adding_row name arity = if is_among (codes "call" ∷ codes "maplist" ∷ []) name then Some (first_only (Goal (arity - 1))) else None

abbrev pub one_row : List ℕ → Option Row
one_row name =
    if is_among (codes "call" ∷ codes "once" ∷ codes "ignore" ∷ codes "not" ∷ codes "initialization" ∷ []) name then Some (first_only (Goal 0)) else None

abbrev pub two_row : List ℕ → Option Row
two_row name =
    if bytes_eq name (codes "forall") then Some (first_two (Goal 0))
    else if bytes_eq name (codes "initialization") then Some (first_only (Goal 0))
    else if bytes_eq name (codes "phrase") then Some (first_only Grammar)
    else adding_row name 2

abbrev pub three_row : List ℕ → Option Row
three_row name =
    if bytes_eq name (codes "findall") then Some (second_only (Goal 0))
    else if is_among (codes "bagof" ∷ codes "setof" ∷ []) name then Some (second_only Caret)
    else if bytes_eq name (codes "catch") then Some (first_and_third (Goal 0))
    else if bytes_eq name (codes "phrase") then Some (first_only Grammar)
    else adding_row name 3

abbrev pub four_row : List ℕ → Option Row
four_row name = if bytes_eq name (codes "findall") then Some (second_only (Goal 0)) else adding_row name 4

-- the row of a predicate of that many arguments
abbrev pub row : List ℕ → ℕ → Option Row
row name arity =
    if arity == 0 then None
    else if arity == 1 then one_row name
    else if arity == 2 then two_row name
    else if arity == 3 then three_row name
    else if arity == 4 then four_row name
    else adding_row name arity

-- how the arguments of a compound stand: none of them is a goal, or they stand by a row of the table, or as the predicate declares them
pub data Standing : Type 0 where
  no_goals : Standing
  by_row : Row → Standing
  as_declared : List GoalArg → Standing

abbrev pub by_table : Option Row → Standing
by_table (Some row) = by_row row
by_table None = no_goals

-- how the arguments of a goal stand, by its module, its name and its arity
abbrev pub Rows : Type 0
Rows = List ℕ → List ℕ → ℕ → Standing

-- by the table alone
abbrev pub plain_rows : Rows
plain_rows owner name arity = by_table (row name arity)

-- what a compound is to the body that it stands in

abbrev pub is_control : List ℕ → ℕ → Bool
is_control name count = count == 2 && is_among (codes "," ∷ codes ";" ∷ codes "|" ∷ codes "->" ∷ []) name

abbrev pub is_negation : List ℕ → ℕ → Bool
is_negation name count = count == 1 && bytes_eq name (codes "\\+")

abbrev pub goal_way : Bool → List ℕ → ℕ → Way
goal_way controls name count =
    if controls && is_control name count then Control
    else if controls && is_negation name count then Negation
    else if count == 2 && bytes_eq name (codes ":") then Qualified
    else Calling

-- control constructs and negations are those without added arguments, and those of grammar bodies
abbrev pub way : GoalArg → List ℕ → ℕ → Way
way Plain name count = Silent
way (Goal e) name count = goal_way (e == 0) name count
way Caret name count = if count == 2 && bytes_eq name (codes "^") then Behind else goal_way true name count
way Grammar name count = goal_way true name count

-- a goal behind `V^`s is a goal
abbrev pub settled : GoalArg → GoalArg
settled Plain = Plain
settled (Goal e) = Goal e
settled Caret = Goal 0
settled Grammar = Grammar

-- what is met at a compound that starts there, and how its arguments stand in which module, and whether they are negated
pub record Taken : Type 0 where
  pub met : Option Met
  pub module_ : List ℕ
  pub standing : Standing
  pub negated : Bool

-- nothing is met
abbrev pub unmet : List ℕ → Standing → Bool → Taken
unmet module_ standing negated = record { met = None; module_ = module_; standing = standing; negated = negated }

abbrev pub variable_at : Tree → Bool
variable_at (variable span) = true
variable_at tree = false

abbrev pub is_variable : Tree → Bool
is_variable tree = variable_at (inside tree)

-- a goal of the module that a term names: none of a variable, and a fault of another term

abbrev pub goal_named : List ℕ → Role → Tree → Option (List ℕ) → Taken
goal_named owner role tree (Some name) = unmet name (by_row (second_only (settled role.arg))) role.negated
goal_named owner role tree None = record {
  met = if is_variable tree then None else Some (fault (start_of tree));
  module_ = owner;
  standing = no_goals;
  negated = role.negated;
}

abbrev pub goal_of : List ℕ → Role → Tree → Taken
goal_of owner role tree = goal_named owner role tree (atom_name tree)

abbrev pub qualified_taken : List ℕ → Role → List Tree → Taken
qualified_taken owner role (tree ∷ trees) = goal_of owner role tree
qualified_taken owner role [] = unmet owner no_goals role.negated

abbrev pub taken_by : Rows → Way → ℕ → List ℕ → Role → List ℕ → List Tree → Taken
taken_by T Silent at module_ role name args = unmet module_ no_goals role.negated
taken_by T Behind at module_ role name args = unmet module_ (by_row (second_only Caret)) role.negated
taken_by T Control at module_ role name args = unmet module_ (by_row (first_two (settled role.arg))) role.negated
taken_by T Negation at module_ role name args = unmet module_ (by_row (first_only (settled role.arg))) true
taken_by T Qualified at module_ role name args = qualified_taken module_ role args
taken_by T Calling at module_ role name args =
    let arity = length args + added role.arg in
    record {
      met = Some (call at module_ name arity (added role.arg) role.negated);
      module_ = module_;
      standing = T module_ name arity;
      negated = role.negated;
    }

abbrev pub taken : Rows → ℕ → List ℕ → Role → List ℕ → List Tree → Taken
taken T at module_ role name args = taken_by T (way role.arg name (length args)) at module_ role name args

-- what is met at a place itself

-- `[]`, `{}` and `!` call nothing in a grammar body
abbrev pub calls_atom : GoalArg → List ℕ → Bool
calls_atom Plain name = false
calls_atom (Goal e) name = true
calls_atom Caret name = true
calls_atom Grammar name = not (is_among (codes "[]" ∷ codes "{}" ∷ codes "!" ∷ []) name)

abbrev pub atom_met : ℕ → List ℕ → Role → List ℕ → Option Met
atom_met at module_ role name =
    if calls_atom role.arg name then Some (call at module_ name (added role.arg) (added role.arg) role.negated) else None

abbrev pub is_text : ConstKind → Bool
is_text Str = true
is_text BackStr = true
is_text Integer = false
is_text Float = false

-- no constant is callable, but texts stand in grammar bodies
abbrev pub constant_met : GoalArg → ConstKind → ℕ → Option Met
constant_met Plain kind at = None
constant_met (Goal e) kind at = Some (fault at)
constant_met Caret kind at = Some (fault at)
constant_met Grammar kind at = if is_text kind then None else Some (fault at)

abbrev pub met_at : Rows → List ℕ → Role → Tree → Option Met
met_at T module_ role (constant kind minus value span) = constant_met role.arg kind span.from
met_at T module_ role (atom name span) = atom_met span.from module_ role name
met_at T module_ role (compound name args form span) = (taken T span.from module_ role name (trees_in args)).met
met_at T module_ role _ = None

-- which places are directly inside a place

-- arguments behind the third are no goals
abbrev pub row_role : Row → ℕ → GoalArg
row_role row i = if i == 0 then row.first else if i == 1 then row.second else if i == 2 then row.third else Plain

abbrev pub role_at : Standing → ℕ → GoalArg
role_at no_goals i = Plain
role_at (by_row row) i = row_role row i
role_at (as_declared args) i = slice_index_or args i Plain

abbrev pub argument_role : Taken → ℕ → Role
argument_role apart i = record { arg = role_at apart.standing i; negated = apart.negated }

-- the place is an argument of a compound
pub record IsArgument (apart : Taken) (args : List Tree) (q : Place) : Type 0 where
  pub i : ℕ
  pub argument : slice_get args i ≡ Some q.tree
  pub in_module : q.module_ ≡ apart.module_
  pub stands : q.role ≡ argument_role apart i

-- inner terms of curly brackets are goals in a grammar body
abbrev pub curly_arg : GoalArg → GoalArg
curly_arg Plain = Plain
curly_arg (Goal e) = Plain
curly_arg Caret = Plain
curly_arg Grammar = Goal 0

abbrev pub curly_role : Role → Role
curly_role role = record { arg = curly_arg role.arg; negated = role.negated }

abbrev pub place : List ℕ → Role → Tree → Place
place module_ role tree = record { module_ = module_; role = role; tree = tree }

abbrev pub IsPart : Rows → List ℕ → Role → Tree → Place → Type 0
IsPart T module_ role (compound name args form span) q = IsArgument (taken T span.from module_ role name (trees_in args)) (trees_in args) q
IsPart T module_ role (curly inner span) q = q ≡ place module_ (curly_role role) inner
IsPart T module_ role (paren inner span) q = q ≡ place module_ role inner
IsPart T module_ role _ q = ⊥

-- goal positions: where each place is directly inside the one before

abbrev pub Leads : Rows → Place → List Place → Place → Type 0
Leads T p [] q = p ≡ q
Leads T p (n ∷ path) q = IsPart T p.module_ p.role p.tree n × Leads T n path q

pub record StandsIn (T : Rows) (p q : Place) : Type 0 where
  pub path : List Place
  pub leads : Leads T p path q

-- at some place within p this is met
pub record IsMet (T : Rows) (p : Place) (m : Met) : Type 0 where
  pub at : Place
  pub stands : StandsIn T p at
  pub met : met_at T at.module_ at.role at.tree ≡ Some m

-- the new list has what the old one has, and what this is true of
pub record Adds {M : Type 0} (P : M → Type 0) (old new : List M) : Type 0 where
  pub each : (m : M) → Contains new m ↔ (Contains old m ⊎ P m)

-- and what is met within the place
abbrev pub AddsMet : Rows → Place → List Met → List Met → Type 0
AddsMet T p old new = Adds (IsMet T p) old new
