use Rattle.std.proofs.Common.{◌≡◌, ℕ, ◌++◌, ◌∷◌, List, [], Some, false, ap, sym, ◌∙◌, subst}
use Rattle.prolog_names.specs.Names.{name_at}
use Rattle.kept_clauses.specs.declared.kept_clause.KeptGoal.{KeptGoal}
use Rattle.kept_clauses.specs.declared.kept_clause.KeptGoal.TheVariants.{Call}
use Rattle.kept_clauses.specs.Views.{see_goal}
use Rattle.call_edges.specs.declared.role.Meant.TheVariants.{Unasked}
use Rattle.call_edges.specs.declared.role.Met.TheVariants as kept
use Rattle.call_edges.specs.Goals.{Met, call, Adds}
use Rattle.call_edges.specs.KeptGoals.{IsMetInGoal}
use Rattle.call_edges.specs.ProgramRows.{rows_of}
use Rattle.call_edges.specs.Seen.{see_mets}
use Rattle.call_edges.proofs.GoalMets.{call_added}
use Rattle.call_edges.proofs.KeptMeanings.{meant_more}
use Rattle.call_edges.proofs.WalkLemmas.{on_ok}
use Rattle.call_edges.proofs.walk_body.walk_goal.Goals as goal

pub returns-in-Whole-clause-met : goal.returns-in-Whole-clause-met
returns-in-Whole-clause-met c =
    let T = rows_of c.args.program.now in
    let P : KeptGoal → Type 0 = λ goal.
    Adds (IsMetInGoal T c.args.owner.now (see_goal c.args.names.now goal)) (see_mets c.args.met.now.items) (see_mets c.walk.new.met.items) in
    on_ok c.walk.result c.walk.ensures.met (λ adds. subst P (sym c.in-Whole.is) adds)

pub returns-in-Call-clause-met : goal.returns-in-Call-clause-met
returns-in-Call-clause-met c =
    let T = rows_of c.args.program.now in
    let owner = c.args.owner.now in
    let names = c.args.names.now in
    let one = c.in-Call.call in
    let name = name_at names one.number in
    let old = see_mets c.args.met.now.items in
    let P : KeptGoal → List Met → Type 0 = λ goal mets. Adds (IsMetInGoal T owner (see_goal names goal)) old mets in
    let adds : P (Call one) (old ++ call one.at owner name one.arity 0 false ∷ []) = call_added T owner one.at name one.arity old in
    let named : old ++ call one.at owner name one.arity 0 false ∷ [] ≡ old ++ call one.at owner c.text.result.now one.arity 0 false ∷ [] =
    ap (λ (n : List ℕ). old ++ call one.at owner n one.arity 0 false ∷ []) (sym c.text.ensures) in
    on_ok c.push_met.result c.push_met.ensures.mets (λ is.
    subst (λ (goal : KeptGoal). P goal (see_mets c.push_met.new.met.items)) (sym c.in-Call.is) (subst (P (Call one)) (named ∙ sym is) adds))

pub returns-in-Call-clause-meant : goal.returns-in-Call-clause-meant
returns-in-Call-clause-meant c =
    let one = c.in-Call.call in
    let met = Some (kept.Call one.at c.args.owner c.text.result one.number one.arity 0 false Unasked) in
    on_ok c.push_met.result c.push_met.ensures.kept (λ more. meant_more c.args.program.now c.args.met.now.items c.push_met.new.met.items met more tt)
