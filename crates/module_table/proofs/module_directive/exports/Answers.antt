use Rattle.std.proofs.Common.{arith, ◌≡◌, List, [], Ok, true, false, Some, map, take, ap, sym, ◌∙◌, subst, refl}
use Rattle.std.proofs.lemmas.Result.{err_from_is_err_and}
use Rattle.std.proofs.lemmas.List.{take_all}
use Rattle.prolog_terms.specs.Tree.{Tree}
use Rattle.prolog_terms.specs.Terms.{tree_of}
use Rattle.module_table.specs.Said.{more, in_turn, each_said, IsWhy}
use Rattle.module_table.specs.Indicators.{one_indicator, list_of}
use Rattle.module_table.specs.Directives.{is_operator, item_exports, exports, exports_of}
use Rattle.module_table.proofs.Items.{items_found}
use Rattle.module_table.proofs.SaidLemmas.{each_step, each_stops, more_none, in_turn_none}
use Rattle.module_table.proofs.module_directive.exports.Goals as goal

exports_listed : (tree : Tree) (items : List Tree) → list_of tree ≡ Some items → exports tree ≡ each_said item_exports items
exports_listed tree items is = ap (exports_of tree) is

pub loop-item-preserved-then-is_operator : goal.loop-item-preserved-then-is_operator
loop-item-preserved-then-is_operator c =
    let item = tree_of c.item-item.result in
    let here : item_exports item ≡ Ok [] = let operator : is_operator item ≡ true = sym c.is_operator.ensures ∙ c.if-is_operator.true in rw operator refl in
    each_step item_exports c.deref-item-items.result.now c.loop-item.item-index c.item-item.result c.loop-item-test.true c.item-item.is
    ∙ (ap (λ said. in_turn said (item_exports item)) c.loop-item.invariant ∙ (ap (more c.loop-item.found.items) here ∙ in_turn_none (Ok c.loop-item.found.items)))

pub returns-in_err-push_indicator-clause-refused : goal.returns-in_err-push_indicator-clause-refused
returns-in_err-push_indicator-clause-refused c =
    let item = tree_of c.item-item.result in
    let here : one_indicator item ≡ item_exports item = let plain : is_operator item ≡ false = sym c.is_operator.ensures ∙ c.if-is_operator.false in sym (rw plain refl) in
    let exit = err_from_is_err_and c.from_residual-in_err-push_indicator.result c.from_residual-in_err-push_indicator.ensures.1 in
    let why = each_stops item_exports c.deref-item-items.result.now c.loop-item.item-index c.item-item.result c.in_err-push_indicator.field-0.0 [] c.loop-item.found.items
    c.loop-item-test.true c.item-item.is (more_none (each_said item_exports (map tree_of (take c.loop-item.item-index c.deref-item-items.result.now))) ∙ c.loop-item.invariant)
    (subst (λ said. IsWhy said c.in_err-push_indicator.field-0.0) here c.in_err-push_indicator.ensures.refused) in
    let items = c.deref-item-items.result.now in
    let listed : list_of (tree_of c.args.list.now) ≡ Some (map tree_of items) =
    items_found tree_of (list_of (tree_of c.args.list.now)) c.in_ok-items.field-0 c.in-Some.items items c.in_ok-items.ensures.trees c.in-Some.is c.deref-item-items.ensures.value in
    rw (exit.1, exit.2) (subst (λ said. IsWhy said c.in_err-push_indicator.field-0.0) (sym (exports_listed (tree_of c.args.list.now) (map tree_of items) listed)) why)

pub loop-item-preserved : goal.loop-item-preserved
loop-item-preserved c =
    let item = tree_of c.item-item.result in
    let here : item_exports item ≡ one_indicator item = let plain : is_operator item ≡ false = sym c.is_operator.ensures ∙ c.if-is_operator.false in rw plain refl in
    each_step item_exports c.deref-item-items.result.now c.loop-item.item-index c.item-item.result c.loop-item-test.true c.item-item.is
    ∙ (ap (λ said. in_turn said (item_exports item)) c.loop-item.invariant ∙ (ap (more c.loop-item.found.items) here ∙ c.in_ok-push_indicator.ensures.ok))

pub returns-clause-ok : goal.returns-clause-ok
returns-clause-ok c =
    let items = c.deref-item-items.result.now in
    let listed : list_of (tree_of c.args.list.now) ≡ Some (map tree_of items) =
    items_found tree_of (list_of (tree_of c.args.list.now)) c.in_ok-items.field-0 c.in-Some.items items c.in_ok-items.ensures.trees c.in-Some.is c.deref-item-items.ensures.value in
    exports_listed (tree_of c.args.list.now) (map tree_of items) listed
    ∙ (ap (λ terms. each_said item_exports (map tree_of terms)) (sym (take_all c.loop-item.item-index items (omega (arith, c.loop-item-test.false)))) ∙ c.loop-item.invariant)
