use Rattle.std.proofs.Common.{[], ◌∷◌, ◌++◌, sym, ap, ◌∙◌}
use Rattle.component_answer.proofs.Nodes.{range_more}
use Rattle.component_answer.proofs.starts.all_nodes.Goals as goal

pub loop-node-preserved : goal.loop-node-preserved
loop-node-preserved c = c.in_ok-push.ensures.items ∙ (ap (λ nodes. nodes ++ c.loop-node.node ∷ []) c.loop-node.invariant ∙ sym (range_more c.loop-node.node))
