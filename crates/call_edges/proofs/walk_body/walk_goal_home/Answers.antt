use Rattle.std.proofs.Common.{◌≡◌, ℕ, ◌++◌, ◌∷◌, List, [], Option, Some, false, ap, sym, ◌∙◌, subst}
use Rattle.prolog_names.specs.Names.{name_at}
use Rattle.import_rules.specs.Program.{found}
use Rattle.kept_clauses.specs.declared.kept_clause.KeptGoal.{KeptGoal}
use Rattle.kept_clauses.specs.declared.kept_clause.KeptGoal.TheVariants.{Call}
use Rattle.kept_clauses.specs.Views.{see_goal}
use Rattle.call_edges.specs.declared.role.Met.TheVariants as kept
use Rattle.call_edges.specs.Goals.{Met, call, Adds}
use Rattle.call_edges.specs.KeptGoals.{IsMetInGoal}
use Rattle.call_edges.specs.Meant.{IsMeaning}
use Rattle.call_edges.specs.ProgramRows.{rows_of}
use Rattle.call_edges.specs.Seen.{see_mets}
use Rattle.call_edges.proofs.GoalMets.{call_added}
use Rattle.call_edges.proofs.KeptMeanings.{meant_more}
use Rattle.call_edges.proofs.WalkLemmas.{on_ok}
use Rattle.call_edges.proofs.walk_body.walk_goal_home.Goals as goal

pub returns-in-Whole-clause-met : goal.returns-in-Whole-clause-met
returns-in-Whole-clause-met c =
    let home = c.args.home.now in
    let T = rows_of home.program.now in
    let P : KeptGoal → Type 0 = λ goal.
    Adds (IsMetInGoal T home.facts.now.module (see_goal c.args.names.now goal)) (see_mets c.args.met.now.items) (see_mets c.walk_home.new.met.items) in
    on_ok c.walk_home.result c.walk_home.ensures.met (λ adds. subst P (sym c.in-Whole.is) adds)

pub returns-in-Call-clause-met : goal.returns-in-Call-clause-met
returns-in-Call-clause-met c =
    let home = c.args.home.now in
    let T = rows_of home.program.now in
    let owner = home.facts.now.module in
    let names = c.args.names.now in
    let one = c.in-Call.call in
    let name = name_at names one.number in
    let old = see_mets c.args.met.now.items in
    let P : KeptGoal → List Met → Type 0 = λ goal mets. Adds (IsMetInGoal T owner (see_goal names goal)) old mets in
    let adds : P (Call one) (old ++ call one.at owner name one.arity 0 false ∷ []) = call_added T owner one.at name one.arity old in
    let named : old ++ call one.at owner name one.arity 0 false ∷ [] ≡ old ++ call one.at c.as_str.result.now c.text.result.now one.arity 0 false ∷ [] =
    λ i. old ++ call one.at (sym c.as_str.ensures i) (sym c.text.ensures i) one.arity 0 false ∷ [] in
    on_ok c.push_met.result c.push_met.ensures.mets (λ is.
    subst (λ (goal : KeptGoal). P goal (see_mets c.push_met.new.met.items)) (sym c.in-Call.is) (subst (P (Call one)) (named ∙ sym is) adds))

pub returns-in-Call-clause-meant : goal.returns-in-Call-clause-meant
returns-in-Call-clause-meant c =
    let home = c.args.home.now in
    let seen = home.program.now in
    let one = c.in-Call.call in
    let named : name_at home.facts.now.names one.number ≡ c.text.result.now =
    ap (λ (ns : List (List ℕ)). name_at ns one.number) (sym c.requires.names) ∙ sym c.text.ensures in
    let is : c.find-callee.result ≡ found seen c.as_str.result.now c.text.result.now one.arity =
    c.find-callee.ensures ∙ (λ i. found seen (sym c.as_str.ensures i) (named i) one.arity) in
    let meant = subst (λ (o : Option ℕ). IsMeaning o c.meaning_found.result) is c.meaning_found.ensures in
    let met = Some (kept.Call one.at c.as_str.result c.text.result one.number one.arity 0 false c.meaning_found.result) in
    on_ok c.push_met.result c.push_met.ensures.kept (λ more. meant_more seen c.args.met.now.items c.push_met.new.met.items met more meant)
