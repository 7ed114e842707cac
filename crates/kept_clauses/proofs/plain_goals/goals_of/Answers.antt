use Rattle.std.proofs.Common.{◌≡◌, [], ◌∷◌, refl, ap, sym, ◌∙◌, subst}
use Rattle.prolog_names.specs.Names.{name_at}
use Rattle.prolog_terms.specs.Terms.{kind_tree, tree_of, trees_of}
use Rattle.prolog_terms.specs.Tree.{Tree, atom, compound, count}
use Rattle.prolog_terms.specs.Views.{name_and_arity}
use Rattle.kept_clauses.specs.BodyGoals.{AreGoals, AreLighter}
use Rattle.kept_clauses.specs.Plain.{atom_goal, body_goals, PlainGoal}
use Rattle.kept_clauses.proofs.plain_goals.goals_of.Goals as goal

pub returns-in-Some-clause-goals : goal.returns-in-Some-clause-goals
returns-in-Some-clause-goals c =
    let body = c.args.body.now in
    let names = body.names.now in
    let span = c.kind_at.result.1 in
    let word = c.in-Atom.name.now in
    let tree : atom word span ≡ tree_of body = sym (ap (λ kind. kind_tree kind span) c.in-Atom.is) ∙ c.kind_at.ensures.tree in
    let named : name_at names c.name_number.result ≡ word = c.name_number.ensures (record { name = word; arity = 0 }) (sym (ap name_and_arity tree)) in (
      sym (ap body_goals tree)
          ∙ (ap (λ w. atom_goal span.from w (atom word span) ∷ []) (sym named) ∙ ap (λ (g : PlainGoal). g ∷ []) (sym (c.in-Some.ensures.goal names (atom word span)))),
      c.in-Some.ensures.fit,
    )

pub returns-in-None-clause-goals : goal.returns-in-None-clause-goals
returns-in-None-clause-goals c =
    let body = c.args.body.now in
    let names = body.names.now in
    let span = c.kind_at.result.1 in
    let word = c.in-Atom.name.now in
    let tree : atom word span ≡ tree_of body = sym (ap (λ kind. kind_tree kind span) c.in-Atom.is) ∙ c.kind_at.ensures.tree in
    let named : name_at names c.name_number.result ≡ word = c.name_number.ensures (record { name = word; arity = 0 }) (sym (ap name_and_arity tree)) in
    sym (ap body_goals tree)
    ∙ ((λ i. atom_goal span.from (sym named i) (tree i) ∷ []) ∙ ap (λ (g : PlainGoal). g ∷ []) (sym (c.in-None.ensures.goal names (tree_of body))))

pub returns-in-Compound-clause-goals : goal.returns-in-Compound-clause-goals
returns-in-Compound-clause-goals c =
    let body = c.args.body.now in
    let names = body.names.now in
    let span = c.kind_at.result.1 in
    let v = c.in-Compound in
    let args = trees_of v.args in
    let tree : compound v.name.now args v.form span ≡ tree_of body = sym (ap (λ kind. kind_tree kind span) v.is) ∙ c.kind_at.ensures.tree in
    let named : name_at names c.name_number-in-Compound.result ≡ v.name.now =
    c.name_number-in-Compound.ensures (record { name = v.name.now; arity = count args }) (sym (ap name_and_arity tree)) in
    subst (λ (t : Tree). AreGoals names t (body_goals t) c.compound_goals.result) (ap (λ w. compound w args v.form span) named ∙ tree)
    (c.compound_goals.ensures.goals v.form span refl)

pub returns-in-Compound-clause-lighter : goal.returns-in-Compound-clause-lighter
returns-in-Compound-clause-lighter c =
    let v = c.in-Compound in
    let span = c.kind_at.result.1 in
    let tree : compound v.name.now (trees_of v.args) v.form span ≡ tree_of c.args.body.now =
    sym (ap (λ kind. kind_tree kind span) v.is) ∙ c.kind_at.ensures.tree in
    subst (λ (t : Tree). AreLighter t c.compound_goals.result) tree (c.compound_goals.ensures.lighter v.name.now v.form span)
