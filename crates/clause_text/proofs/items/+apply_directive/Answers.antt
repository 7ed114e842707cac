use Rattle.std.proofs.Common.{codes, Err, ap, sym, ◌∙◌, arith}
use Rattle.prolog_ops.specs.Table.{ops_of}
use Rattle.prolog_terms.specs.Terms.{tree_of}
use Rattle.prolog_terms.proofs.ViewLemmas.{AreBelow, sides_below}
use Rattle.clause_text.specs.Items.{item_on, items_on, directive_items}
use Rattle.clause_text.proofs.EachOn.{each_then, each_stops}
use Rattle.clause_text.proofs.Outcomes.{on_err, err_only, ok_only}
use Rattle.clause_text.proofs.TermShapes.{directive_joined, directive_alone}
use Rattle.clause_text.proofs.items.+apply_directive.Goals as goal

pub returns-in_default-clause-done : goal.returns-in_default-clause-done
returns-in_default-clause-done t c =
    ok_only c.apply_goal.result _ _ c.apply_goal.ensures.done
    (λ done. ap (λ items. items_on items (ops_of c.args.table.now)) (directive_alone (tree_of c.args.directive.now) (sym c.in_default.ensures.trees)) ∙ done)

pub returns-in_default-clause-refused : goal.returns-in_default-clause-refused
returns-in_default-clause-refused t c =
    err_only c.apply_goal.result _ _ c.apply_goal.ensures.refused
    (λ fault refused some.
    ap (λ items. items_on items (ops_of c.args.table.now)) (directive_alone (tree_of c.args.directive.now) (sym c.in_default.ensures.trees)) ∙ refused some)

pub apply_directive-requires : goal.apply_directive-requires
apply_directive-requires t c =
    let sides : AreBelow (tree_of c.args.directive.now) (tree_of c.in-Some.first) (tree_of c.in-Some.others) =
    sides_below (codes ",") (tree_of c.args.directive.now) (tree_of c.in-Some.first) (tree_of c.in-Some.others) (sym c.in-Some.ensures.trees) in
    (omega (arith, sides.left_below, sides.right_below), tt)

pub apply_directive-requires-2 : goal.apply_directive-requires-2
apply_directive-requires-2 t c =
    let sides : AreBelow (tree_of c.args.directive.now) (tree_of c.in-Some.first) (tree_of c.in-Some.others) =
    sides_below (codes ",") (tree_of c.args.directive.now) (tree_of c.in-Some.first) (tree_of c.in-Some.others) (sym c.in-Some.ensures.trees) in
    (omega (arith, sides.left_below, sides.right_below), tt)

pub returns-in_err-apply_directive-clause-refused : goal.returns-in_err-apply_directive-clause-refused
returns-in_err-apply_directive-clause-refused t c =
    let here = tree_of c.args.directive.now in
    let first = tree_of c.in-Some.first in
    let others = tree_of c.in-Some.others in
    let table = ops_of c.args.table.now in
    on_err c.from_residual.result _ _ c.from_residual.ensures.1
    (λ fault same some.
    ap (λ items. items_on items table) (directive_joined here first others (sym c.in-Some.ensures.trees))
    ∙ each_stops item_on (directive_items first) (directive_items others) table fault
    (c.in_err-apply_directive.ensures.refused (λ none. some (same ∙ none)) ∙ ap (λ f. Err f) (sym same)))

pub returns-clause-done : goal.returns-clause-done
returns-clause-done t c =
    let here = tree_of c.args.directive.now in
    let first = tree_of c.in-Some.first in
    let others = tree_of c.in-Some.others in
    let table = ops_of c.args.table.now in
    ok_only c.apply_directive-2.result _ _ c.apply_directive-2.ensures.done
    (λ done.
    ap (λ items. items_on items table) (directive_joined here first others (sym c.in-Some.ensures.trees))
    ∙ (each_then item_on (directive_items first) (directive_items others) table (ops_of c.apply_directive.new.table) c.in_ok-apply_directive.ensures.done ∙ done))

pub returns-clause-refused : goal.returns-clause-refused
returns-clause-refused t c =
    let here = tree_of c.args.directive.now in
    let first = tree_of c.in-Some.first in
    let others = tree_of c.in-Some.others in
    let table = ops_of c.args.table.now in
    err_only c.apply_directive-2.result _ _ c.apply_directive-2.ensures.refused
    (λ fault refused some.
    ap (λ items. items_on items table) (directive_joined here first others (sym c.in-Some.ensures.trees))
    ∙ (each_then item_on (directive_items first) (directive_items others) table (ops_of c.apply_directive.new.table) c.in_ok-apply_directive.ensures.done ∙ refused some))
