-- What a body is made of, and what a clause begins with.
use Rattle.std.specs.Prelude.{◌≡◌, ℕ, ◌≤◌, ◌<◌, nat_eq, ◌||◌, not, List, [], ◌∷◌, ◌++◌, Option, Some, None, true, option_map}
use Rattle.prolog_names.specs.Names.{name_at}
use Rattle.prolog_terms.specs.Tree.{Tree}
use Rattle.prolog_terms.specs.Terms.{tree_of}
use Rattle.prolog_terms.specs.Weight.{weight}
use Rattle.prolog_terms.specs.declared.term.Term.{Term}
use Rattle.kept_clauses.specs.declared.kept_clause.KeptCall.{KeptCall}
use Rattle.kept_clauses.specs.declared.plain_goals.BodyGoals.{BodyGoals}
use Rattle.kept_clauses.specs.declared.plain_goals.BodyGoals.TheVariants.{Nothing, Of, OfBoth, Call, Whole}
use Rattle.kept_clauses.specs.declared.plain_goals.PlainHead.{PlainHead}
use Rattle.kept_clauses.specs.Plain.{PlainGoal, called, whole, body_goals, clause_span, plain_clause}
use Rattle.kept_clauses.specs.Views.{see_call}
use Rattle.kept_clauses.specs.Words.{is_reserved}

-- it fits in a word as a goal: it has no arguments, or its name isn't reserved
pub record IsFitCall (one : KeptCall) : Type 0 where
  pub at : one.at ≤ 8388607
  pub arity : one.arity ≤ 63
  pub free : nat_eq one.arity 0 || not (is_reserved one.number) ≡ true

-- it fits in a word as a head, whose name isn't reserved
pub record IsFitHead (one : KeptCall) : Type 0 where
  pub at : one.at ≤ 8388607
  pub arity : one.arity ≤ 63
  pub free : not (is_reserved one.number) ≡ true

-- a call, or the whole tree as a goal if there is none
abbrev pub goal_by : List (List ℕ) → Tree → Option KeptCall → PlainGoal
goal_by names tree (Some one) = called (see_call names one)
goal_by names tree None = whole tree

-- the goals are what the body, this tree, is made of
abbrev pub AreGoals : List (List ℕ) → Tree → List PlainGoal → BodyGoals → Type 0
AreGoals names tree goals Nothing = goals ≡ []
AreGoals names tree goals (Of term) = goals ≡ body_goals (tree_of term)
AreGoals names tree goals (OfBoth left right) = goals ≡ body_goals (tree_of left) ++ body_goals (tree_of right)
AreGoals names tree goals (Call one) = (goals ≡ called (see_call names one) ∷ []) × IsFitCall one
AreGoals names tree goals Whole = goals ≡ whole tree ∷ []

-- the terms weigh less than the body
abbrev pub AreLighter : Tree → BodyGoals → Type 0
AreLighter tree (Of term) = weight (tree_of term) < weight tree
AreLighter tree (OfBoth left right) = (weight (tree_of left) < weight tree) × (weight (tree_of right) < weight tree)
AreLighter tree goals = Unit {0}

-- the terms have these names
abbrev pub HaveNames : List (List ℕ) → BodyGoals → Type 0
HaveNames names (Of term) = term.names.now ≡ names
HaveNames names (OfBoth left right) = (left.names.now ≡ names) × (right.names.now ≡ names)
HaveNames names goals = Unit {0}

abbrev pub BodyHasNames : List (List ℕ) → Option Term → Type 0
BodyHasNames names (Some term) = term.names.now ≡ names
BodyHasNames names None = Unit {0}

-- the clause, this tree, has a plain form with that head and that body, or none
pub record IsPlainHead (names : List (List ℕ)) (tree : Tree) (head : PlainHead) : Type 0 where
  pub form :
      plain_clause tree ≡ Some (record {
        span = clause_span tree;
        name = name_at names head.call.number;
        arity = head.call.arity;
        body = option_map (λ term. body_goals (tree_of term)) head.body;
      })
  pub at : head.call.at ≡ (clause_span tree).from
  pub fit : IsFitHead head.call
  pub names_are : BodyHasNames names head.body

abbrev pub IsPlainHeadOf : List (List ℕ) → Tree → Option PlainHead → Type 0
IsPlainHeadOf names tree (Some head) = IsPlainHead names tree head
IsPlainHeadOf names tree None = plain_clause tree ≡ None
