use Rattle.std.proofs.Common.{[], ◌∷◌, ap, sym, ◌∙◌}
use Rattle.prolog_names.specs.Names.{name_at}
use Rattle.prolog_terms.specs.Terms.{trees_of}
use Rattle.prolog_terms.specs.Tree.{compound}
use Rattle.kept_clauses.specs.Plain.{compound_goal, PlainGoal}
use Rattle.kept_clauses.proofs.Bodies.{compound_sides, goals_by_sides}
use Rattle.kept_clauses.proofs.plain_goals.compound_goals.Goals as goal

pub returns-in_default-compound_call-clause-goals : goal.returns-in_default-compound_call-clause-goals
returns-in_default-compound_call-clause-goals c = λ form span at.
    let name = name_at c.args.names.now c.args.number in
    let args = trees_of c.args.args.now in
    let tree = compound name args form span in
    compound_sides name args form span
    ∙ (ap (goals_by_sides name args form span) (sym c.in_default.ensures.sides)
    ∙ (ap (λ n. compound_goal n name args tree ∷ []) at ∙ ap (λ (g : PlainGoal). g ∷ []) (sym (c.in_default-compound_call.ensures.goal tree))))

pub returns-clause-goals : goal.returns-clause-goals
returns-clause-goals c = λ form span at.
    let name = name_at c.args.names.now c.args.number in
    let args = trees_of c.args.args.now in
    let tree = compound name args form span in (
      compound_sides name args form span
          ∙ (ap (goals_by_sides name args form span) (sym c.in_default.ensures.sides)
          ∙ (ap (λ n. compound_goal n name args tree ∷ []) at ∙ ap (λ (g : PlainGoal). g ∷ []) (sym (c.in-Some-compound_call.ensures.goal tree)))),
      c.in-Some-compound_call.ensures.fit,
    )
