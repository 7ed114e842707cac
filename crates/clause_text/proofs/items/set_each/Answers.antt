use Rattle.std.proofs.Common.{Err, List, filter_map, map, ap, sym, ◌∙◌}
use Rattle.std.proofs.lemmas.List.{take_all}
use Rattle.prolog_ops.specs.Table.{ops_of}
use Rattle.prolog_terms.specs.declared.term.Term.{Term}
use Rattle.prolog_terms.specs.Terms.{tree_of}
use Rattle.clause_text.specs.Items.{each_on, name_on, name_of}
use Rattle.clause_text.proofs.Outcomes.{on_err}
use Rattle.clause_text.proofs.SetNames.{more_done, more_refused}
use Rattle.clause_text.proofs.items.set_each.Goals as goal

pub returns-in_err-set_name-clause-refused : goal.returns-in_err-set_name-clause-refused
returns-in_err-set_name-clause-refused c =
    on_err c.from_residual.result _ _ c.from_residual.ensures.1
    (λ fault same some.
    more_refused (name_on c.args.kind c.args.priority) name_of c.args.names.now c.loop-name.name-index c.name-item.result (ops_of c.args.table.now) (ops_of c.loop-name.table) fault
    c.loop-name-test.true c.name-item.is c.loop-name.invariant (c.in_err-set_name.ensures.refused (λ none. some (same ∙ none)) ∙ ap (λ f. Err f) (sym same)))

pub loop-name-preserved : goal.loop-name-preserved
loop-name-preserved c =
    more_done (name_on c.args.kind c.args.priority) name_of c.args.names.now c.loop-name.name-index c.name-item.result (ops_of c.args.table.now) (ops_of c.loop-name.table)
    (ops_of c.set_name.new.table) c.loop-name-test.true c.name-item.is c.loop-name.invariant c.in_ok-set_name.ensures.done

pub returns-clause-done : goal.returns-clause-done
returns-clause-done c =
    ap (λ (names : List Term). each_on (name_on c.args.kind c.args.priority) (filter_map name_of (map tree_of names)) (ops_of c.args.table.now))
    (sym (take_all c.loop-name.name-index c.args.names.now c.loop-name-test.false))
    ∙ c.loop-name.invariant
