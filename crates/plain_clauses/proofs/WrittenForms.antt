-- A plain form that is written as a term is the plain form of that term.
use Rattle.std.proofs.Common.{◌≡◌, inl, inr, ℕ, zero, suc, Bool, true, false, ◌&&◌, List, [], ◌∷◌, ◌++◌, Option, Some, None, if◌then◌else◌, refl, sym, ap, ◌∙◌, subst}
use Rattle.prolog_terms.specs.declared.term.Span.{Span}
use Rattle.prolog_terms.specs.Tree.{Tree, Trees, variable, constant, atom, compound, listed, tailed, curly, paren, none, more, count}
use Rattle.prolog_terms.specs.Views.{binary}
use Rattle.kept_clauses.specs.Plain.{is_one_of, control_names, is_free, fits, is_plain_name, all_silent, PlainGoal, called, whole, PlainClause, compound_goal, atom_goal, body_goals, clause_span}
use Rattle.kept_clauses.specs.Plain.{clause_named, clause_by, plain_clause, span_at, variables, named_tree, goal_tree, goals_from, body_tree, written, plain}
use Rattle.kept_clauses.proofs.Bodies.{if_true, if_false}
use Rattle.kept_clauses.proofs.FreeNames.{both_true, plain_free}
use Rattle.module_table.proofs.PlainHeads.{no_control}
use Rattle.module_table.proofs.PlainHeads.{count_variables, named_back, named_span, named_binary, no_rule}
use Rattle.call_edges.proofs.GoalMets.{silent_variables}
use Rattle.clause_text.proofs.PlainForms.{rule_or_fact}

-- goals that are read again as themselves

abbrev pub IsNormal : PlainGoal → Type 0
IsNormal goal = body_goals (goal_tree goal) ≡ goal ∷ []

abbrev pub AreNormal : List PlainGoal → Type 0
AreNormal [] = Unit {0}
AreNormal (goal ∷ goals) = IsNormal goal × AreNormal goals

normal_append : (xs ys : List PlainGoal) → AreNormal xs → AreNormal ys → AreNormal (xs ++ ys)
normal_append [] ys first second = second
normal_append (x ∷ xs) ys first second = (first.0, normal_append xs ys first.1 second)

abbrev call_goal : ℕ → List ℕ → ℕ → PlainGoal
call_goal at name arity = called (record { at = at; name = name; arity = arity })

-- an atom, and a compound with a free name, of which the arguments are variables
module _ (at : ℕ) (name : List ℕ) where
  atom_back : (tree : Tree) → fits at 0 ≡ true → atom_goal at name tree ≡ call_goal at name 0
  atom_back tree is = if_true (fits at 0) _ _ is

  compound_back : (n : ℕ) (tree : Tree) → is_plain_name at name n ≡ true → compound_goal at name (variables n) tree ≡ call_goal at name n
  compound_back n tree is =
      if_true (is_plain_name at name (count (variables n)) && all_silent (variables n)) _ _
      ((λ i. is_plain_name at name (count_variables n i) && silent_variables n i) ∙ (λ i. is i && true))
      ∙ ap (λ k. call_goal at name k) (count_variables n)

  abbrev tree_of : ℕ → Tree
  tree_of n = named_tree (span_at at) name n

  call_back : (n : ℕ) → is_plain_name at name n ≡ true → body_goals (tree_of n) ≡ call_goal at name n ∷ []
  call_back zero is = ap (λ goal. goal ∷ []) (atom_back (tree_of 0) (both_true (is_free name) (fits at 0) is).1)
  call_back (suc zero) is = ap (λ goal. goal ∷ []) (compound_back 1 (tree_of 1) is)
  call_back (suc (suc zero)) is =
      if_false (is_one_of control_names name) _ _ (no_control name (plain_free at name 2 is)) ∙ ap (λ goal. goal ∷ []) (compound_back 2 (tree_of 2) is)
  call_back (suc (suc (suc n))) is = ap (λ goal. goal ∷ []) (compound_back (suc (suc (suc n))) (tree_of (suc (suc (suc n)))) is)

atom_normal : (name : List ℕ) (span : Span) → IsNormal (atom_goal span.from name (atom name span))
atom_normal name span = by_test (fits span.from 0) refl
  where
    by_test : (test : Bool) → fits span.from 0 ≡ test → IsNormal (atom_goal span.from name (atom name span))
    by_test true test_is =
        subst IsNormal (sym (atom_back span.from name (atom name span) test_is))
        (ap (λ goal. goal ∷ []) (atom_back span.from name (atom name (span_at span.from)) test_is))
    by_test false test_is =
        let goal_is = if_false (fits span.from 0) (call_goal span.from name 0) (whole (atom name span)) test_is in
        subst IsNormal (sym goal_is) (ap (λ goal. goal ∷ []) goal_is)

compound_normal : (at : ℕ) (name : List ℕ) (args : Trees) (tree : Tree) → body_goals tree ≡ compound_goal at name args tree ∷ []
    → IsNormal (compound_goal at name args tree)
compound_normal at name args tree is = by_test (is_plain_name at name (count args) && all_silent args) refl
  where
    chosen : Bool → PlainGoal
    chosen test = if test then call_goal at name (count args) else whole tree

    by_test : (test : Bool) → is_plain_name at name (count args) && all_silent args ≡ test → IsNormal (compound_goal at name args tree)
    by_test true test_is =
        subst IsNormal (sym (if_true (is_plain_name at name (count args) && all_silent args) _ _ test_is))
        (call_back at name (count args) (both_true (is_plain_name at name (count args)) (all_silent args) test_is).0)
    by_test false test_is =
        let goal_is = if_false (is_plain_name at name (count args) && all_silent args) (call_goal at name (count args)) (whole tree) test_is in
        subst IsNormal (sym goal_is) (is ∙ ap (λ goal. goal ∷ []) goal_is)

pub goals_normal : (tree : Tree) → AreNormal (body_goals tree)
goals_normal (variable span) = tt
goals_normal (constant kind minus value span) = (refl, tt)
goals_normal (atom name span) = (atom_normal name span, tt)
goals_normal (compound name none form span) = (compound_normal span.from name none (compound name none form span) refl, tt)
goals_normal (compound name (more inner none) form span) =
    (compound_normal span.from name (more inner none) (compound name (more inner none) form span) refl, tt)
goals_normal (compound name (more left (more right none)) form span) =
    by_test (is_one_of control_names name) refl (goals_normal left) (goals_normal right)
  where
    by_test : (test : Bool) → is_one_of control_names name ≡ test → AreNormal (body_goals left) → AreNormal (body_goals right)
        → AreNormal (body_goals (compound name (more left (more right none)) form span))
    by_test true is first second =
        subst AreNormal (sym (if_true (is_one_of control_names name) _ _ is)) (normal_append (body_goals left) (body_goals right) first second)
    by_test false is first second =
        let args = more left (more right none) in
        let goals_are = if_false (is_one_of control_names name) (body_goals left ++ body_goals right)
        (compound_goal span.from name args (compound name args form span) ∷ []) is in
        subst AreNormal (sym goals_are) (compound_normal span.from name args (compound name args form span) goals_are, tt)
goals_normal (compound name (more one (more two (more three args))) form span) =
    (compound_normal span.from name (more one (more two (more three args))) (compound name (more one (more two (more three args))) form span) refl, tt)
goals_normal (listed items span) = tt
goals_normal (tailed items tail span) = tt
goals_normal (curly inner span) = tt
goals_normal (paren inner span) = goals_normal inner

-- joined by commas they are read again

from_back : (goal : PlainGoal) (goals : List PlainGoal) → AreNormal (goal ∷ goals) → body_goals (goals_from goal goals) ≡ goal ∷ goals
from_back goal [] normal = normal.0
from_back goal (next ∷ goals) normal = λ i. normal.0 i ++ from_back next goals normal.1 i

pub body_back : (goals : List PlainGoal) → AreNormal goals → body_goals (body_tree goals) ≡ goals
body_back [] normal = refl
body_back (goal ∷ goals) normal = from_back goal goals normal

-- clauses

module _ (span : Span) (name : List ℕ) (arity : ℕ) (plain_name : is_plain_name span.from name arity ≡ true) where
  abbrev made : Option (List PlainGoal) → PlainClause
  made body = record { span = span; name = name; arity = arity; body = body }

  named_made : (body : Option (List PlainGoal)) → clause_named span body (Some (record { name = name; arity = arity })) ≡ Some (made body)
  named_made body = if_true (is_plain_name span.from name arity) _ _ plain_name

  rule_back : (goals : List PlainGoal) → body_goals (body_tree goals) ≡ goals → plain_clause (written (made (Some goals))) ≡ Some (made (Some goals))
  rule_back goals back = (λ i. clause_named span (Some (back i)) (named_back (span_at 0) name arity i)) ∙ named_made (Some goals)

  fact_back : plain_clause (written (made None)) ≡ Some (made None)
  fact_back =
      let tree = named_tree span name arity in
      ap (clause_by tree) (no_rule (binary tree) (named_binary span name arity (plain_free span.from name arity plain_name)))
      ∙ (λ i. clause_named (named_span span name arity i) None (named_back span name arity i)) ∙ named_made None

pub written_back : (tree : Tree) (clause : PlainClause) → plain_clause tree ≡ Some clause → plain_clause (written clause) ≡ Some clause
written_back tree clause is =
    elim (rule_or_fact tree clause is) [
      | inl rule ↦
          let n = rule.named.named in
          subst (λ (c : PlainClause). plain_clause (written c) ≡ Some c) rule.named.clause_is
          (rule_back (clause_span tree) n.name n.arity rule.named.plain (body_goals rule.sides.1) (body_back (body_goals rule.sides.1) (goals_normal rule.sides.1)))
      | inr fact ↦
          let n = fact.named.named in
          subst (λ (c : PlainClause). plain_clause (written c) ≡ Some c) fact.named.clause_is (fact_back (clause_span tree) n.name n.arity fact.named.plain)
    ]

-- whatever two terms of one plain form share is the same of a tree and its plain tree
pub same_by_form : {A : Type 0} (what : Tree → A) (made : PlainClause → A) → ((tree : Tree) (clause : PlainClause) → plain_clause tree ≡ Some clause → what tree ≡ made clause)
    → (tree : Tree) → what (plain tree) ≡ what tree
same_by_form {A} what made says tree = by_form (plain_clause tree) refl
  where
    by_form : (o : Option PlainClause) → plain_clause tree ≡ o → what (elim o [ Some clause ↦ written clause | None ↦ tree ]) ≡ what tree
    by_form (Some clause) is = says (written clause) clause (written_back tree clause is) ∙ sym (says tree clause is)
    by_form None is = refl

-- a plain tree is its own plain tree
pub form_same : (tree : Tree) → plain_clause (plain tree) ≡ plain_clause tree
form_same tree = same_by_form plain_clause (λ clause. Some clause) (λ t clause is. is) tree

pub plain_once : (tree : Tree) → plain (plain tree) ≡ plain tree
plain_once tree = by_form (plain_clause tree) refl
  where
    by_form : (o : Option PlainClause) → plain_clause tree ≡ o
        → plain (elim o [ Some clause ↦ written clause | None ↦ tree ]) ≡ elim o [ Some clause ↦ written clause | None ↦ tree ]
    by_form (Some clause) is =
        ap (λ (form : Option PlainClause). elim form [ Some one ↦ written one | None ↦ written clause ]) (written_back tree clause is)
    by_form None is = ap (λ (form : Option PlainClause). elim form [ Some one ↦ written one | None ↦ tree ]) is
