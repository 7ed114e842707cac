use Rattle.std.proofs.Common.{true, false, sym, ap, ◌∙◌}
use Rattle.std.specs.List.{list_all}
use Rattle.prolog_terms.specs.Terms.{tree_of, trees_of}
use Rattle.kept_clauses.specs.Plain.{silent}
use Rattle.kept_clauses.proofs.Silent.{silent_each, last_silent}
use Rattle.kept_clauses.proofs.plain_goals.are_silent.Goals as goal

pub returns-then-not-is_silent : goal.returns-then-not-is_silent
returns-then-not-is_silent c =
    sym (last_silent (trees_of c.loop-before.others) (trees_of c.in-Some.before) (tree_of c.in-Some.last) false c.in-Some.ensures.trees
    (sym c.is_silent.ensures ∙ c.if-not-is_silent.true)) ∙ c.loop-before.invariant

pub loop-before-preserved : goal.loop-before-preserved
loop-before-preserved c =
    sym (last_silent (trees_of c.loop-before.others) (trees_of c.in-Some.before) (tree_of c.in-Some.last) true c.in-Some.ensures.trees
    (sym c.is_silent.ensures ∙ c.if-not-is_silent.false)) ∙ c.loop-before.invariant

pub returns : goal.returns
returns c =
    sym (silent_each (trees_of c.loop-before.others) ∙ ap (list_all silent) c.in_default.ensures.trees) ∙ c.loop-before.invariant
