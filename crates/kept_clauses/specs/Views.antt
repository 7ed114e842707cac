-- Kept clauses and goals, as they are seen.
use Rattle.std.specs.Prelude.{◌≡◌, ℕ, ◌⊎◌, List, Some, None, true, if◌then◌else◌, drop}
use Rattle.prolog_names.specs.Names.{name_at}
use Rattle.prolog_terms.specs.Tree.{Tree}
use Rattle.prolog_terms.specs.Terms.{tree_of, IsOf}
use Rattle.kept_clauses.specs.declared.kept_clause.KeptCall.{KeptCall}
use Rattle.kept_clauses.specs.declared.kept_clause.KeptGoal.{KeptGoal}
use Rattle.kept_clauses.specs.declared.kept_clause.KeptGoal.TheVariants as kept_goal
use Rattle.kept_clauses.specs.declared.kept_clause.KeptGoals.{KeptGoals}
use Rattle.kept_clauses.specs.declared.kept_clause.PlainForm.{PlainForm}
use Rattle.kept_clauses.specs.declared.kept_clause.KeptClause.{KeptClause}
use Rattle.kept_clauses.specs.declared.kept_clause.KeptClause.TheVariants as kept_clause
use Rattle.kept_clauses.specs.Plain.{is_free, PlainCall, PlainGoal, called, whole, PlainClause, written}
use Rattle.kept_clauses.specs.Words.{goals_in, end_in, Kept}

-- a call, whose name is a number in these names
abbrev pub see_call : List (List ℕ) → KeptCall → PlainCall
see_call names one = record { at = one.at; name = name_at names one.number; arity = one.arity }

abbrev pub see_goal : List (List ℕ) → KeptGoal → PlainGoal
see_goal names (kept_goal.Call one) = called (see_call names one)
see_goal names (kept_goal.Whole term) = whole (tree_of term)

-- goals up to the end of their clause
abbrev pub see_goals : KeptGoals → List PlainGoal
see_goals goals = goals_in goals.names.now goals.list.now.1 (drop goals.at goals.list.now.0)

abbrev pub see_form : PlainForm → PlainClause
see_form form =
    record {
      span = record { from = form.head.at; to = end_in (drop form.goals.at form.goals.list.now.0) };
      name = name_at form.goals.names.now form.head.number;
      arity = form.head.arity;
      body = if form.is_rule then Some (see_goals form.goals) else None;
    }

-- the clause as a tree
abbrev pub clause_tree : KeptClause → Tree
clause_tree (kept_clause.Whole term) = tree_of term
clause_tree (kept_clause.Plain form) = written (see_form form)

-- a call has no arguments, or its name is free
abbrev pub IsSoundCall : PlainCall → Type 0
IsSoundCall one = (one.arity ≡ 0) ⊎ (is_free one.name ≡ true)

abbrev pub IsSoundGoal : PlainGoal → Type 0
IsSoundGoal (called one) = IsSoundCall one
IsSoundGoal (whole tree) = Unit {0}

-- a plain form defines a free name
abbrev pub IsSoundClause : KeptClause → Type 0
IsSoundClause (kept_clause.Whole term) = Unit {0}
IsSoundClause (kept_clause.Plain form) = is_free (name_at form.goals.names.now form.head.number) ≡ true

-- the term is of the nodes of that list, and the goals have these names
abbrev pub IsKeptIn : List (List ℕ) → Kept → KeptClause → Type 0
IsKeptIn names kept (kept_clause.Whole term) = IsOf names kept.1 term
IsKeptIn names kept (kept_clause.Plain form) = form.goals.names.now ≡ names

-- the term of a goal has these names
abbrev pub HasNames : List (List ℕ) → KeptGoal → Type 0
HasNames names (kept_goal.Call one) = Unit {0}
HasNames names (kept_goal.Whole term) = term.names.now ≡ names
