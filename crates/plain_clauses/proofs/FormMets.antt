-- What is met in the plain form of a clause is what is met in the clause.
use Rattle.std.proofs.Common.{◌≡◌, ◌↔◌, ℕ, true, List, Some, Contains, sym, subst}
use Rattle.list_laws.proofs.OneOrder.{nothing_in}
use Rattle.prolog_terms.specs.Tree.{Tree}
use Rattle.kept_clauses.specs.Plain.{silent, PlainClause, body_goals, plain_clause}
use Rattle.call_edges.specs.Calls.{IsMetInClause, IsAmong}
use Rattle.call_edges.specs.declared.role.Role.{Role}
use Rattle.call_edges.specs.Goals.{Met, goal_role, place, Rows, IsMet}
use Rattle.call_edges.specs.KeptGoals.{IsMetInGoal, IsMetInForm}
use Rattle.call_edges.proofs.GoalMets.{silent_none, goals_have, body_has}
use Rattle.call_edges.proofs.ListedMets.{mets_are}
use Rattle.plain_clauses.proofs.PlainMets.{goals_met, form_mets, clause_mets_are}

module _ (T : Rows) (owner : List ℕ) where
  pub body_met : (body : Tree) (m : Met) → IsMet T (place owner goal_role body) m ↔ IsAmong (IsMetInGoal T owner) (body_goals body) m
  body_met body m =
      let is = goals_met T owner body in
      let are = mets_are T owner goal_role body m in
      let have = goals_have T owner (body_goals body) m in (
        λ met. have.0 (subst (λ mets. Contains mets m) is (are.1 met)),
        λ among. are.0 (subst (λ mets. Contains mets m) (sym is) (have.1 among)),
      )

  pub form_met : (tree : Tree) (clause : PlainClause) (m : Met) → plain_clause tree ≡ Some clause → IsMetInClause T owner tree m ↔ IsMetInForm T owner clause.body m
  form_met tree clause m plain =
      let is = form_mets T owner tree clause plain in
      let are = clause_mets_are T owner tree m in
      let have = body_has T owner clause.body m in (
        λ met. have.0 (subst (λ mets. Contains mets m) is (are.0 met)),
        λ met. are.1 (subst (λ mets. Contains mets m) (sym is) (have.1 met)),
      )

  pub silent_unmet : (role : Role) (tree : Tree) (m : Met) → silent tree ≡ true → IsMet T (place owner role tree) m → ⊥
  silent_unmet role tree m quiet met =
      nothing_in m (subst (λ mets. Contains mets m) (silent_none T owner role tree quiet) ((mets_are T owner role tree m).1 met))
