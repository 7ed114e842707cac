-- A plain tree weighs no more than its tree.
use Rattle.std.proofs.Common.{◌≡◌, inl, inr, ℕ, zero, suc, ◌+◌, ◌≤◌, Bool, true, false, ◌&&◌, List, [], ◌∷◌, ◌++◌, Option, Some, None, if◌then◌else◌, codes, refl, subst, arith}
use Rattle.prolog_terms.specs.declared.term.Span.{Span}
use Rattle.prolog_terms.specs.Tree.{Tree, Trees, variable, constant, atom, compound, listed, tailed, curly, paren, none, more, count}
use Rattle.prolog_terms.specs.Weight.{weight, weights}
use Rattle.prolog_terms.proofs.ViewLemmas.{arity_weight, count_weight, sides_weight}
use Rattle.kept_clauses.specs.Plain.{is_one_of, control_names, is_plain_name, all_silent, PlainGoal, called, whole, PlainClause, compound_goal, body_goals, plain_clause}
use Rattle.kept_clauses.specs.Plain.{variables, span_at, clause_span, fits, named_tree, goal_tree, goals_from, body_tree, written, plain}
use Rattle.clause_text.proofs.PlainForms.{rule_or_fact}

variables_weight : (n : ℕ) → weights (variables n) ≡ n
variables_weight zero = refl
variables_weight (suc n) = omega (arith, variables_weight n)

named_weight : (span : Span) (name : List ℕ) (arity : ℕ) → weight (named_tree span name arity) ≡ arity
named_weight span name zero = refl
named_weight span name (suc n) = variables_weight (suc n)

-- one goal more, and its comma
from_weight : (goal : PlainGoal) (goals : List PlainGoal) → weight (goals_from goal goals) ≤ weight (goal_tree goal) + weight (body_tree goals) + 2
from_weight goal [] = omega arith
from_weight goal (next ∷ goals) = omega arith

append_weight : (xs ys : List PlainGoal) → weight (body_tree (xs ++ ys)) ≤ weight (body_tree xs) + weight (body_tree ys) + 2
append_weight [] ys = omega arith
append_weight (x ∷ []) ys = from_weight x ys
append_weight (x ∷ (y ∷ xs)) ys =
    let rest : weight (goals_from y (xs ++ ys)) ≤ weight (goals_from y xs) + weight (body_tree ys) + 2 = append_weight (y ∷ xs) ys in
    omega arith

compound_weight : (at : ℕ) (name : List ℕ) (args : Trees) (tree : Tree) → weights args ≤ weight tree → weight (goal_tree (compound_goal at name args tree)) ≤ weight tree
compound_weight at name args tree within = by_test (is_plain_name at name (count args) && all_silent args)
  where
    by_test : (test : Bool) → weight (goal_tree (if test then called (record { at = at; name = name; arity = count args }) else whole tree)) ≤ weight tree
    by_test true = omega (arith, within, named_weight (span_at at) name (count args), count_weight args)
    by_test false = omega arith

goals_weight : (tree : Tree) → weight (body_tree (body_goals tree)) ≤ weight tree
goals_weight (variable span) = omega arith
goals_weight (constant kind minus value span) = omega arith
goals_weight (atom name span) = by_test (fits span.from 0)
  where
    by_test : (test : Bool) → weight (goal_tree (if test then called (record { at = span.from; name = name; arity = 0 }) else whole (atom name span))) ≤ 0
    by_test true = omega arith
    by_test false = omega arith
goals_weight (compound name none form span) = compound_weight span.from name none (compound name none form span) (omega arith)
goals_weight (compound name (more inner none) form span) =
    compound_weight span.from name (more inner none) (compound name (more inner none) form span) (omega arith)
goals_weight (compound name (more left (more right none)) form span) = by_test (is_one_of control_names name) (goals_weight left) (goals_weight right)
  where
    by_test : (test : Bool) → weight (body_tree (body_goals left)) ≤ weight left → weight (body_tree (body_goals right)) ≤ weight right
        → weight
        (body_tree
        (if test then body_goals left ++ body_goals right
        else compound_goal span.from name (more left (more right none)) (compound name (more left (more right none)) form span) ∷ []))
        ≤ weight (compound name (more left (more right none)) form span)
    by_test true first second = omega (arith, append_weight (body_goals left) (body_goals right), first, second)
    by_test false first second = compound_weight span.from name (more left (more right none)) (compound name (more left (more right none)) form span) (omega arith)
goals_weight (compound name (more one (more two (more three args))) form span) =
    compound_weight span.from name (more one (more two (more three args))) (compound name (more one (more two (more three args))) form span) (omega arith)
goals_weight (listed items span) = omega arith
goals_weight (tailed items tail span) = omega arith
goals_weight (curly inner span) = omega arith
goals_weight (paren inner span) = omega (arith, goals_weight inner)

written_light : (tree : Tree) (clause : PlainClause) → plain_clause tree ≡ Some clause → weight (written clause) ≤ weight tree
written_light tree clause is =
    elim (rule_or_fact tree clause is) [
      | inl rule ↦
          let n = rule.named.named in
          subst (λ (c : PlainClause). weight (written c) ≤ weight tree) rule.named.clause_is
          (omega (
            arith,
            named_weight (span_at 0) n.name n.arity,
            arity_weight rule.sides.0 n rule.named.is,
            goals_weight rule.sides.1,
            sides_weight (codes ":-") tree rule.sides.0 rule.sides.1 rule.is,
          ))
      | inr fact ↦
          let n = fact.named.named in
          subst (λ (c : PlainClause). weight (written c) ≤ weight tree) fact.named.clause_is
          (omega (arith, named_weight (clause_span tree) n.name n.arity, arity_weight tree n fact.named.is))
    ]

pub plain_light : (tree : Tree) → weight (plain tree) ≤ weight tree
plain_light tree = by_form (plain_clause tree) refl
  where
    by_form : (o : Option PlainClause) → plain_clause tree ≡ o → weight (elim o [ Some clause ↦ written clause | None ↦ tree ]) ≤ weight tree
    by_form (Some clause) is = written_light tree clause is
    by_form None is = omega arith
