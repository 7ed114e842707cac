use Rattle.std.proofs.Common.{[], ◌∷◌, ◌++◌, sym, ap, ◌∙◌}
use Rattle.import_rules.proofs.Ranges.{range_more}
use Rattle.loop_report.proofs.module_graph.all_nodes.Goals as goal

pub loop-node-preserved : goal.loop-node-preserved
loop-node-preserved c = c.in_ok-push.ensures.items ∙ (ap (λ nodes. nodes ++ c.loop-node.node ∷ []) c.loop-node.invariant ∙ sym (range_more c.loop-node.node))
