use Rattle.std.proofs.Common.{ap, sym, ◌∙◌}
use Rattle.prolog_ops.specs.Table.{ops_of}
use Rattle.clause_text.specs.Items.{items_on, items_under}
use Rattle.clause_text.proofs.Outcomes.{ok_only}
use Rattle.clause_text.proofs.items.apply_items.Goals as goal

pub returns-in-Some-clause-done : goal.returns-in-Some-clause-done
returns-in-Some-clause-done c =
    ok_only c.apply_directive.result _ _ c.apply_directive.ensures.done
    (λ done. ap (λ directive. items_on (items_under directive) (ops_of c.args.table.now)) (sym c.in-Some.ensures.tree) ∙ done)
