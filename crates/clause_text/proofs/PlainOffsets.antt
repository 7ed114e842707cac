-- What starts at an offset of the text does so in the plain tree too.
use Rattle.std.proofs.Common.{◌≡◌, inl, inr, ℕ, zero, suc, Bool, true, false, ◌&&◌, List, [], ◌∷◌, ◌++◌, All, map, Option, Some, None, if◌then◌else◌, codes, refl, sym, subst, arith}
use Rattle.std.specs.Str.{bytes_eq}
use Rattle.std.proofs.lemmas.List.Elements.{All-nil, All-cons, All-head, All-tail}
use Rattle.std.proofs.lemmas.Str.{IsUtf8-nil}
use Rattle.prolog_tokens.specs.Places.{IsOffset}
use Rattle.prolog_terms.specs.declared.term.Span.{Span}
use Rattle.prolog_terms.specs.Tree.{Tree, Trees, variable, constant, atom, compound, listed, tailed, curly, paren, none, more, count}
use Rattle.prolog_terms.specs.Views.{sides_of}
use Rattle.prolog_terms.proofs.ViewLemmas.{some_once, some_none, pair_if}
use Rattle.clause_text.specs.Offsets.{HasOffsets, HaveOffsets}
use Rattle.clause_text.proofs.TermOffsets.{start_stands}
use Rattle.kept_clauses.specs.Plain.{is_one_of, control_names, is_plain_name, all_silent, PlainGoal, called, whole, PlainClause, compound_goal, body_goals, plain_clause}
use Rattle.kept_clauses.specs.Plain.{variables, span_at, clause_span, fits, named_tree, goal_tree, goals_from, body_tree, written, plain}
use Rattle.clause_text.proofs.PlainForms.{rule_or_fact}

module _ (text : List ℕ) where
  begins : IsOffset text 0
  begins = record { within = omega arith; utf8 = IsUtf8-nil }

  variables_stand : (n : ℕ) → HaveOffsets text (variables n)
  variables_stand zero = tt
  variables_stand (suc n) = (begins, variables_stand n)

  named_stands : (span : Span) (name : List ℕ) (arity : ℕ) → IsOffset text span.from → HasOffsets text (named_tree span name arity)
  named_stands span name zero stands = stands
  named_stands span name (suc n) stands = (stands, variables_stand (suc n))

  abbrev Stand : List PlainGoal → Type 0
  Stand [] = Unit {0}
  Stand (goal ∷ goals) = HasOffsets text (goal_tree goal) × Stand goals

  stand_append : (xs ys : List PlainGoal) → Stand xs → Stand ys → Stand (xs ++ ys)
  stand_append [] ys first second = second
  stand_append (x ∷ xs) ys first second = (first.0, stand_append xs ys first.1 second)

  from_stands : (goal : PlainGoal) (goals : List PlainGoal) → Stand (goal ∷ goals) → HasOffsets text (goals_from goal goals)
  from_stands goal [] stand = stand.0
  from_stands goal (next ∷ goals) stand = (begins, (stand.0, (from_stands next goals stand.1, tt)))

  body_stands : (goals : List PlainGoal) → Stand goals → HasOffsets text (body_tree goals)
  body_stands [] stand = begins
  body_stands (goal ∷ goals) stand = from_stands goal goals stand

  compound_stands : (at : ℕ) (name : List ℕ) (args : Trees) (tree : Tree) → IsOffset text at → HasOffsets text tree → HasOffsets text (goal_tree (compound_goal at name args tree))
  compound_stands at name args tree stands all = by_test (is_plain_name at name (count args) && all_silent args)
    where
      by_test : (test : Bool) → HasOffsets text (goal_tree (if test then called (record { at = at; name = name; arity = count args }) else whole tree))
      by_test true = named_stands (span_at at) name (count args) stands
      by_test false = all

  goals_stand : (tree : Tree) → HasOffsets text tree → Stand (body_goals tree)
  goals_stand (variable span) all = tt
  goals_stand (constant kind minus value span) all = (all, tt)
  goals_stand (atom name span) all = (by_test (fits span.from 0), tt)
    where
      by_test : (test : Bool) → HasOffsets text (goal_tree (if test then called (record { at = span.from; name = name; arity = 0 }) else whole (atom name span)))
      by_test true = all
      by_test false = all
  goals_stand (compound name none form span) all = (compound_stands span.from name none (compound name none form span) all.0 all, tt)
  goals_stand (compound name (more inner none) form span) all =
      (compound_stands span.from name (more inner none) (compound name (more inner none) form span) all.0 all, tt)
  goals_stand (compound name (more left (more right none)) form span) all =
      by_test (is_one_of control_names name) (goals_stand left all.1.0) (goals_stand right all.1.1.0)
    where
      by_test : (test : Bool) → Stand (body_goals left) → Stand (body_goals right)
          → Stand
          (if test then body_goals left ++ body_goals right
          else compound_goal span.from name (more left (more right none)) (compound name (more left (more right none)) form span) ∷ [])
      by_test true first second = stand_append (body_goals left) (body_goals right) first second
      by_test false first second =
          (compound_stands span.from name (more left (more right none)) (compound name (more left (more right none)) form span) all.0 all, tt)
  goals_stand (compound name (more one (more two (more three args))) form span) all =
      let parts = more one (more two (more three args)) in (compound_stands span.from name parts (compound name parts form span) all.0 all, tt)
  goals_stand (listed items span) all = tt
  goals_stand (tailed items tail span) all = tt
  goals_stand (curly inner span) all = tt
  goals_stand (paren inner span) all = goals_stand inner all.1

  right_if : (test : Bool) (left right l r : Tree) → pair_if test left right ≡ Some (l, r) → HasOffsets text right → HasOffsets text r
  right_if true left right l r is stands =
      let both : (left, right) ≡ (l, r) = some_once is in
      subst (λ (pair : Tree × Tree). HasOffsets text pair.1) both stands
  right_if false left right l r is stands = absurd (some_none (l, r) (sym is))

  right_stands : (tree l r : Tree) → sides_of (codes ":-") tree ≡ Some (l, r) → HasOffsets text tree → HasOffsets text r
  right_stands (compound name (more left (more right none)) form span) l r is all = right_if (bytes_eq name (codes ":-")) left right l r is all.1.1.0
  right_stands (paren inner span) l r is all = right_stands inner l r is all.1
  right_stands tree l r is all = absurd (some_none (l, r) (sym is))

  written_stands : (tree : Tree) (clause : PlainClause) → plain_clause tree ≡ Some clause → HasOffsets text tree → HasOffsets text (written clause)
  written_stands tree clause is all =
      elim (rule_or_fact tree clause is) [
        | inl rule ↦
            let n = rule.named.named in
            let body = body_stands (body_goals rule.sides.1) (goals_stand rule.sides.1 (right_stands tree rule.sides.0 rule.sides.1 rule.is all)) in
            subst (λ (c : PlainClause). HasOffsets text (written c)) rule.named.clause_is
            (start_stands text tree all, (named_stands (span_at 0) n.name n.arity begins, (body, tt)))
        | inr fact ↦
            let n = fact.named.named in
            subst (λ (c : PlainClause). HasOffsets text (written c)) fact.named.clause_is (named_stands (clause_span tree) n.name n.arity (start_stands text tree all))
      ]

  pub plain_stands : (tree : Tree) → HasOffsets text tree → HasOffsets text (plain tree)
  plain_stands tree all = by_form (plain_clause tree) refl
    where
      by_form : (o : Option PlainClause) → plain_clause tree ≡ o → HasOffsets text (elim o [ Some clause ↦ written clause | None ↦ tree ])
      by_form (Some clause) is = written_stands tree clause is all
      by_form None is = all

  -- and so for all clauses
  pub all_plain_stand : (trees : List Tree) → All (HasOffsets text) trees → All (HasOffsets text) (map plain trees)
  all_plain_stand [] all = All-nil (HasOffsets text)
  all_plain_stand (tree ∷ trees) all =
      All-cons (HasOffsets text) (plain tree) (map plain trees) (plain_stands tree (All-head (HasOffsets text) tree trees all))
      (all_plain_stand trees (All-tail (HasOffsets text) tree trees all))
