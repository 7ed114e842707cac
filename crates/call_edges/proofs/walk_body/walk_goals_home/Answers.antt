use Rattle.std.proofs.Common.{List, All, arith, ap, sym, ◌∙◌, subst}
use Rattle.std.proofs.lemmas.List.Elements.{All-cons, All-nil}
use Rattle.prolog_terms.specs.Weight.{weight}
use Rattle.kept_clauses.specs.Plain.{PlainGoal, body_tree}
use Rattle.kept_clauses.specs.Views.{see_goal, see_goals, IsSoundGoal}
use Rattle.call_edges.specs.Calls.{IsAmong}
use Rattle.call_edges.specs.Goals.{Met, Adds}
use Rattle.call_edges.specs.KeptGoals.{IsMetInGoal}
use Rattle.call_edges.specs.ProgramRows.{rows_of}
use Rattle.call_edges.specs.Seen.{see_mets}
use Rattle.call_edges.proofs.GoalMets.{body_added, first_weight, goals_added, no_goals_added, rest_weight}
use Rattle.call_edges.proofs.walk_body.walk_goals_home.Goals as goal

pub walk_goal_home-requires-clause-small : goal.walk_goal_home-requires-clause-small
walk_goal_home-requires-clause-small c =
    let goal = see_goal c.loop-goal.left.names.now c.in-Some.goal in
    let others = see_goals c.in-Some.others in
    omega (arith, c.loop-goal.invariant.light, first_weight goal others, ap (λ (goals : List PlainGoal). weight (body_tree goals)) c.in-Some.ensures.goals)

pub loop-goal-preserved : goal.loop-goal-preserved
loop-goal-preserved c =
    let T = rows_of c.args.home.now.program.now in
    let owner = c.args.home.now.facts.now.module in
    let goal = see_goal c.loop-goal.left.names.now c.in-Some.goal in
    let others = see_goals c.in-Some.others in
    let is = c.in-Some.ensures.goals in
    let before = see_mets c.loop-goal.met.items in
    let P : List PlainGoal → List Met → Type 0 = λ goals new. Adds (IsAmong (IsMetInGoal T owner) goals) before new in record {
      adds = λ new more.
          c.loop-goal.invariant.adds new
          (subst (λ (goals : List PlainGoal). P goals new) (sym is)
          (goals_added T owner goal others before (see_mets c.walk_goal_home.new.met.items) new c.in_ok-walk_goal_home.ensures.met more));
      sound = λ sound. c.loop-goal.invariant.sound (subst (All IsSoundGoal) (sym is) (All-cons IsSoundGoal goal others c.in-Some.ensures.sound sound));
      names = c.in-Some.ensures.within ∙ c.loop-goal.invariant.names;
      light = omega (arith, c.loop-goal.invariant.light, rest_weight goal others, ap (λ (goals : List PlainGoal). weight (body_tree goals)) is);
      meant = λ all. c.in_ok-walk_goal_home.ensures.meant (c.loop-goal.invariant.meant all);
    }

pub returns-clause-met : goal.returns-clause-met
returns-clause-met c =
    let T = rows_of c.args.home.now.program.now in
    let owner = c.args.home.now.facts.now.module in
    let now = see_mets c.loop-goal.met.items in
    let none = c.in_default.ensures.goals in
    let P : List PlainGoal → Type 0 = λ goals. Adds (IsAmong (IsMetInGoal T owner) goals) now now in
    let sound = c.loop-goal.invariant.sound (subst (All IsSoundGoal) (sym none) (All-nil IsSoundGoal)) in
    let adds = c.loop-goal.invariant.adds now (subst P (sym none) (no_goals_added T owner now)) in
    body_added T owner (see_goals c.args.goals.now) (see_mets c.args.met.now.items) now sound adds
