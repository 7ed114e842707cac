use Rattle.std.proofs.Common.{codes, ap, sym, ◌∙◌, arith}
use Rattle.prolog_terms.specs.Terms.{tree_of}
use Rattle.prolog_terms.proofs.ViewLemmas.{AreBelow, sides_below}
use Rattle.clause_text.specs.Items.{has_some, directive_items}
use Rattle.clause_text.proofs.HasItems.{some_first, some_behind}
use Rattle.clause_text.proofs.Outcomes.{ok_with}
use Rattle.clause_text.proofs.TermShapes.{directive_joined, directive_alone}
use Rattle.clause_text.proofs.items.+directive_has_items.Goals as goal

pub returns-in_default : goal.returns-in_default
returns-in_default t c =
    ok_with c.goal_has_items.result _ _ c.goal_has_items.ensures
    (λ some is. is ∙ ap has_some (sym (directive_alone (tree_of c.args.directive.now) (sym c.in_default.ensures.trees))))

pub directive_has_items-requires : goal.directive_has_items-requires
directive_has_items-requires t c =
    let sides : AreBelow (tree_of c.args.directive.now) (tree_of c.in-Some.first) (tree_of c.in-Some.others) =
    sides_below (codes ",") (tree_of c.args.directive.now) (tree_of c.in-Some.first) (tree_of c.in-Some.others) (sym c.in-Some.ensures.trees) in
    (omega (arith, sides.left_below, sides.right_below), tt)

pub directive_has_items-requires-2 : goal.directive_has_items-requires-2
directive_has_items-requires-2 t c =
    let sides : AreBelow (tree_of c.args.directive.now) (tree_of c.in-Some.first) (tree_of c.in-Some.others) =
    sides_below (codes ",") (tree_of c.args.directive.now) (tree_of c.in-Some.first) (tree_of c.in-Some.others) (sym c.in-Some.ensures.trees) in
    (omega (arith, sides.left_below, sides.right_below), tt)

pub returns-then-branch : goal.returns-then-branch
returns-then-branch t c =
    let first = tree_of c.in-Some.first in
    let others = tree_of c.in-Some.others in
    some_first (directive_items first) (directive_items others) (sym c.in_ok-directive_has_items.ensures ∙ c.if-branch.true)
    ∙ ap has_some (sym (directive_joined (tree_of c.args.directive.now) first others (sym c.in-Some.ensures.trees)))

pub returns : goal.returns
returns t c =
    let first = tree_of c.in-Some.first in
    let others = tree_of c.in-Some.others in
    ok_with c.directive_has_items-2.result _ _ c.directive_has_items-2.ensures
    (λ some is.
    is
    ∙ (some_behind (directive_items first) (directive_items others) (sym c.in_ok-directive_has_items.ensures ∙ c.if-branch.false)
    ∙ ap has_some (sym (directive_joined (tree_of c.args.directive.now) first others (sym c.in-Some.ensures.trees)))))
