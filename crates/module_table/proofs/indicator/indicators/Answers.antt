use Rattle.std.proofs.Common.{[], map, take, ap, ◌∙◌}
use Rattle.std.proofs.lemmas.Result.{err_from_is_err_and}
use Rattle.prolog_terms.specs.Terms.{tree_of}
use Rattle.module_table.specs.Said.{in_turn}
use Rattle.module_table.specs.Indicators.{indicators, one_indicator}
use Rattle.module_table.proofs.SaidLemmas.{each_step, each_stops, more_none}
use Rattle.module_table.proofs.indicator.indicators.Goals as goal

pub returns-in_err-push_indicator-clause-refused : goal.returns-in_err-push_indicator-clause-refused
returns-in_err-push_indicator-clause-refused c =
    let before = c.loop-term.invariant in
    let exit = err_from_is_err_and c.from_residual.result c.from_residual.ensures.1 in
    rw (exit.1, exit.2)
    (each_stops one_indicator c.args.terms.now c.loop-term.term-index c.term-item.result c.in_err-push_indicator.field-0.0 [] c.loop-term.found.items
    c.loop-term-test.true c.term-item.is (more_none (indicators (map tree_of (take c.loop-term.term-index c.args.terms.now))) ∙ before) c.in_err-push_indicator.ensures.refused)

pub loop-term-preserved : goal.loop-term-preserved
loop-term-preserved c =
    each_step one_indicator c.args.terms.now c.loop-term.term-index c.term-item.result c.loop-term-test.true c.term-item.is
    ∙ (ap (λ said. in_turn said (one_indicator (tree_of c.term-item.result))) c.loop-term.invariant ∙ c.in_ok-push_indicator.ensures.ok)
