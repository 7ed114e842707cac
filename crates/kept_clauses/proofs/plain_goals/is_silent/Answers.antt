use Rattle.std.proofs.Common.{ap, ◌∙◌, sym, subst}
use Rattle.prolog_terms.specs.Terms.{tree_of}
use Rattle.kept_clauses.specs.Plain.{silent}
use Rattle.kept_clauses.proofs.Silent.{silent_inside, IsBare, bare_inside}
use Rattle.kept_clauses.proofs.plain_goals.is_silent.Goals as goal

pub returns-in-Var : goal.returns-in-Var
returns-in-Var c = ap silent c.in-Var.ensures.tree ∙ ap silent c.inside.ensures.tree ∙ silent_inside (tree_of c.args.term.now)

pub returns-in-List : goal.returns-in-List
returns-in-List c = ap silent c.in-List.ensures.tree ∙ ap silent c.inside.ensures.tree ∙ silent_inside (tree_of c.args.term.now)

pub returns-in-Tailed : goal.returns-in-Tailed
returns-in-Tailed c = ap silent c.in-Tailed.ensures.tree ∙ ap silent c.inside.ensures.tree ∙ silent_inside (tree_of c.args.term.now)

pub returns-in-Const : goal.returns-in-Const
returns-in-Const c = ap silent c.in-Const.ensures.tree ∙ ap silent c.inside.ensures.tree ∙ silent_inside (tree_of c.args.term.now)

pub returns-in-Atom : goal.returns-in-Atom
returns-in-Atom c = ap silent c.in-Atom.ensures.tree ∙ ap silent c.inside.ensures.tree ∙ silent_inside (tree_of c.args.term.now)

pub returns-in-Compound : goal.returns-in-Compound
returns-in-Compound c = ap silent c.in-Compound.ensures.tree ∙ ap silent c.inside.ensures.tree ∙ silent_inside (tree_of c.args.term.now)

pub returns-in-Curly : goal.returns-in-Curly
returns-in-Curly c = ap silent c.in-Curly.ensures.tree ∙ ap silent c.inside.ensures.tree ∙ silent_inside (tree_of c.args.term.now)

pub returns-in-Paren : goal.returns-in-Paren
returns-in-Paren c = absurd (subst IsBare (sym (c.in-Paren.ensures.tree ∙ c.inside.ensures.tree)) (bare_inside (tree_of c.args.term.now)))
