use Rattle.std.proofs.Common.{ap, sym, ◌∙◌}
use Rattle.prolog_ops.specs.Table.{ops_of}
use Rattle.prolog_terms.specs.Terms.{tree_of}
use Rattle.clause_text.specs.Items.{items_on, items_by, item_of}
use Rattle.clause_text.proofs.Outcomes.{ok_only}
use Rattle.clause_text.proofs.items.apply_goal.Goals as goal

pub returns-in-None-clause-done : goal.returns-in-None-clause-done
returns-in-None-clause-done c =
    ok_only c.apply_operator.result _ _ c.apply_operator.ensures.done
    (λ done. ap (λ sides. items_on (items_by sides (item_of (tree_of c.args.goal.now))) (ops_of c.args.table.now)) (sym c.in-None.ensures.trees) ∙ done)
