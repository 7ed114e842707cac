-- What is met in a clause with a plain form: what is met in the goals of the form, in the order of the text.
use Rattle.std.proofs.Common.{◌≡◌, ◌↔◌, inl, inr, ℕ, ◌+◌, ◌<◌, Bool, true, false, ◌&&◌, List, [], ◌∷◌, ◌++◌, Option, Some, None, if◌then◌else◌, codes, refl, sym, ap, ◌∙◌, subst, arith, append_assoc, append-nil}
use Rattle.std.specs.Prelude.{Contains}
use Rattle.std.specs.Str.{bytes_eq}
use Rattle.prolog_terms.specs.declared.term.Span.{Span}
use Rattle.prolog_terms.specs.declared.term.Form.{Form}
use Rattle.prolog_terms.specs.Tree.{Tree, Trees, variable, constant, atom, compound, listed, tailed, curly, paren, none, more, count}
use Rattle.prolog_terms.specs.Views.{sides_of}
use Rattle.kept_clauses.specs.Plain.{is_one_of, control_names, fits, is_plain_name, all_silent, PlainGoal, called, whole, PlainClause, compound_goal, atom_goal, body_goals, plain_clause, plain}
use Rattle.module_table.specs.declared.goal_arg.GoalArg.TheVariants.{Plain, Goal}
use Rattle.kept_clauses.proofs.FreeNames.{both_true, plain_free}
use Rattle.call_edges.specs.declared.role.Way.TheVariants.{Control, Qualified, Calling}
use Rattle.call_edges.specs.Calls.{IsMetInClause, body_by, body_of}
use Rattle.call_edges.specs.Goals.{Met, Place, Rows, goal_role, no_goals, unmet, body_role, way}
use Rattle.call_edges.specs.Listed.{mets_in, mets_among}
use Rattle.call_edges.proofs.GoalMets.{call_mets, met_by, goal_mets, goals_mets, body_mets}
use Rattle.call_edges.proofs.ListedMets.{mets_are}
use Rattle.clause_text.proofs.PlainForms.{rule_or_fact}
use Rattle.plain_clauses.proofs.FormHeads.{fact_no_grammar}
use Rattle.plain_clauses.proofs.WrittenForms.{same_by_form}

no_more : {X : Type 0} (xs : List X) → xs ≡ xs ++ []
no_more xs = sym (append-nil xs)

-- what a compound is to a body, by its name

control_way : (name : List ℕ) → is_one_of control_names name ≡ true → way (Goal 0) name 2 ≡ Control
control_way name is = ap (λ (b : Bool). if b then Control else (if bytes_eq name (codes ":") then Qualified else Calling)) is

module _ (T : Rows) where
  -- nothing is met within a term that is no goal
  mutual
    plain_none : (owner : List ℕ) (tree : Tree) → mets_in T owner (body_role Plain) tree ≡ []
    plain_none owner (variable span) = refl
    plain_none owner (constant kind minus value span) = refl
    plain_none owner (atom name span) = refl
    plain_none owner (compound name args form span) = all_plain_none owner 0 args
    plain_none owner (listed items span) = refl
    plain_none owner (tailed items tail span) = refl
    plain_none owner (curly inner span) = plain_none owner inner
    plain_none owner (paren inner span) = plain_none owner inner

    all_plain_none : (owner : List ℕ) (i : ℕ) (trees : Trees) → mets_among T (unmet owner no_goals false) i trees ≡ []
    all_plain_none owner i none = refl
    all_plain_none owner i (more tree trees) = λ k. plain_none owner tree k ++ all_plain_none owner (i + 1) trees k

  module _ (owner : List ℕ) where
    append_mets : (xs ys : List PlainGoal) → goals_mets T owner (xs ++ ys) ≡ goals_mets T owner xs ++ goals_mets T owner ys
    append_mets [] ys = refl
    append_mets (x ∷ xs) ys = ap (λ rest. goal_mets T owner x ++ rest) (append_mets xs ys) ∙ sym (append_assoc (goal_mets T owner x) (goals_mets T owner xs) (goals_mets T owner ys))

    -- a compound that is no control construct
    compound_mets : (name : List ℕ) (args : Trees) (form : Form) (span : Span) →
        mets_in T owner goal_role (compound name args form span) ≡ goals_mets T owner (compound_goal span.from name args (compound name args form span) ∷ [])
    compound_mets name args form span = by_test (is_plain_name span.from name (count args) && all_silent args) refl
      where
        by_test : (test : Bool) → is_plain_name span.from name (count args) && all_silent args ≡ test
            → mets_in T owner goal_role (compound name args form span)
            ≡ goals_mets T owner ((if test then called (record { at = span.from; name = name; arity = count args }) else whole (compound name args form span)) ∷ [])
        by_test true is =
            let both = both_true (is_plain_name span.from name (count args)) (all_silent args) is in
            call_mets T owner name args span (plain_free span.from name (count args) both.0) both.1
        by_test false is = no_more (mets_in T owner goal_role (compound name args form span))

    -- an atom
    atom_mets : (name : List ℕ) (span : Span) → mets_in T owner goal_role (atom name span) ≡ goals_mets T owner (atom_goal span.from name (atom name span) ∷ [])
    atom_mets name span = by_test (fits span.from 0)
      where
        by_test : (test : Bool) → mets_in T owner goal_role (atom name span)
            ≡ goals_mets T owner ((if test then called (record { at = span.from; name = name; arity = 0 }) else whole (atom name span)) ∷ [])
        by_test true = refl
        by_test false = no_more (mets_in T owner goal_role (atom name span))

    pub goals_met : (tree : Tree) → mets_in T owner goal_role tree ≡ goals_mets T owner (body_goals tree)
    goals_met (variable span) = refl
    goals_met (constant kind minus value span) = no_more (mets_in T owner goal_role (constant kind minus value span))
    goals_met (atom name span) = atom_mets name span
    goals_met (compound name none form span) = compound_mets name none form span
    goals_met (compound name (more inner none) form span) = compound_mets name (more inner none) form span
    goals_met (compound name (more left (more right none)) form span) = by_test (is_one_of control_names name) refl (goals_met left) (goals_met right)
      where
        by_test : (test : Bool) → is_one_of control_names name ≡ test → mets_in T owner goal_role left ≡ goals_mets T owner (body_goals left)
            → mets_in T owner goal_role right ≡ goals_mets T owner (body_goals right)
            → mets_in T owner goal_role (compound name (more left (more right none)) form span)
            ≡ goals_mets T owner
            (if test then body_goals left ++ body_goals right
            else compound_goal span.from name (more left (more right none)) (compound name (more left (more right none)) form span) ∷ [])
        by_test true is left_is right_is =
            ap (λ w. met_by T owner w name (more left (more right none)) span) (control_way name is)
            ∙ (λ k. left_is k ++ (sym (no_more (mets_in T owner goal_role right)) ∙ right_is) k)
            ∙ sym (append_mets (body_goals left) (body_goals right))
        by_test false is left_is right_is = compound_mets name (more left (more right none)) form span
    goals_met (compound name (more one (more two (more three args))) form span) = compound_mets name (more one (more two (more three args))) form span
    goals_met (listed items span) = refl
    goals_met (tailed items tail span) = refl
    goals_met (curly inner span) = plain_none owner inner
    goals_met (paren inner span) = goals_met inner

    -- what is met in a clause, in the order of the text

    abbrev pub place_mets : Option Place → List Met
    place_mets (Some body) = mets_in T body.module_ body.role body.tree
    place_mets None = []

    abbrev pub clause_mets : Tree → List Met
    clause_mets tree = place_mets (body_of owner tree)

    pub form_mets : (tree : Tree) (clause : PlainClause) → plain_clause tree ≡ Some clause → clause_mets tree ≡ body_mets T owner clause.body
    form_mets tree clause is =
        elim (rule_or_fact tree clause is) [
          | inl rule ↦
              ap (λ sides. place_mets (body_by owner sides (sides_of (codes "-->") tree))) rule.is
              ∙ goals_met rule.sides.1 ∙ ap (λ (c : PlainClause). body_mets T owner c.body) rule.named.clause_is
          | inr fact ↦
              (λ i. place_mets (body_by owner (fact.is i) (fact_no_grammar tree clause fact i))) ∙ ap (λ (c : PlainClause). body_mets T owner c.body) fact.named.clause_is
        ]

    pub plain_mets : (tree : Tree) → clause_mets (plain tree) ≡ clause_mets tree
    plain_mets tree = same_by_form clause_mets (λ clause. body_mets T owner clause.body) form_mets tree

    pub clause_mets_are : (tree : Tree) (m : Met) → IsMetInClause T owner tree m ↔ Contains (clause_mets tree) m
    clause_mets_are tree m = (
      λ met. subst (λ body. Contains (place_mets body) m) (sym met.is) ((mets_are T met.body.module_ met.body.role met.body.tree m).1 met.met),
      λ has. by_body (body_of owner tree) refl has,
    )
      where
        by_body : (o : Option Place) → body_of owner tree ≡ o → Contains (place_mets o) m → IsMetInClause T owner tree m
        by_body (Some body) is has = record { body = body; is = is; met = (mets_are T body.module_ body.role body.tree m).0 has }
        by_body None is has = let lt : has.0 < 0 = has.1 in absurd (omega arith)

    pub plain_met : (tree : Tree) (m : Met) → IsMetInClause T owner (plain tree) m ↔ IsMetInClause T owner tree m
    plain_met tree m =
        let is = plain_mets tree in (
          λ met. (clause_mets_are tree m).1 (subst (λ mets. Contains mets m) is ((clause_mets_are (plain tree) m).0 met)),
          λ met. (clause_mets_are (plain tree) m).1 (subst (λ mets. Contains mets m) (sym is) ((clause_mets_are tree m).0 met)),
        )
