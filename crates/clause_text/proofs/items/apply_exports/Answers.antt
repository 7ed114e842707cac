use Rattle.std.proofs.Common.{Err, List, filter_map, map, ap, sym, refl, ◌∙◌}
use Rattle.std.proofs.lemmas.List.{take_all}
use Rattle.prolog_ops.specs.Table.{ops_of}
use Rattle.prolog_terms.specs.declared.term.Term.{Term}
use Rattle.prolog_terms.specs.Tree.{Tree}
use Rattle.prolog_terms.specs.Terms.{tree_of}
use Rattle.clause_text.specs.Items.{item_on, item_of, items_on}
use Rattle.clause_text.proofs.Outcomes.{on_err}
use Rattle.clause_text.proofs.SetNames.{more_done, more_refused}
use Rattle.clause_text.proofs.items.apply_exports.Goals as goal

pub returns-in_err-apply_operator-clause-refused : goal.returns-in_err-apply_operator-clause-refused
returns-in_err-apply_operator-clause-refused c =
    on_err c.from_residual-in_err-apply_operator.result _ _ c.from_residual-in_err-apply_operator.ensures.1
    (λ fault same some.
    ap (λ (trees : List Tree). items_on (filter_map item_of trees) (ops_of c.args.table.now)) (sym (ap (map tree_of) c.deref-export-items.ensures.value ∙ c.in_ok-list.ensures))
    ∙ more_refused item_on item_of c.deref-export-items.result.now c.loop-export.export-index c.export-item.result (ops_of c.args.table.now) (ops_of c.loop-export.table) fault
    c.loop-export-test.true c.export-item.is c.loop-export.invariant (c.in_err-apply_operator.ensures.refused (λ none. some (same ∙ none)) ∙ ap (λ f. Err f) (sym same)))

pub loop-export-preserved : goal.loop-export-preserved
loop-export-preserved c =
    more_done item_on item_of c.deref-export-items.result.now c.loop-export.export-index c.export-item.result (ops_of c.args.table.now) (ops_of c.loop-export.table)
    (ops_of c.apply_operator.new.table) c.loop-export-test.true c.export-item.is c.loop-export.invariant c.in_ok-apply_operator.ensures.done

pub returns-clause-done : goal.returns-clause-done
returns-clause-done c =
    ap (λ (trees : List Tree). items_on (filter_map item_of trees) (ops_of c.args.table.now)) (sym (ap (map tree_of) c.deref-export-items.ensures.value ∙ c.in_ok-list.ensures))
    ∙ (ap (λ (list : List Term). items_on (filter_map item_of (map tree_of list)) (ops_of c.args.table.now))
    (sym (take_all c.loop-export.export-index c.deref-export-items.result.now c.loop-export-test.false))
    ∙ c.loop-export.invariant)

pub loop-export-init : goal.loop-export-init
loop-export-init c = refl
