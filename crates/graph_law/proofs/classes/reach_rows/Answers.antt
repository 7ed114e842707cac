use Rattle.std.proofs.Common.{length}
use Rattle.graph_law.specs.Graph.{Calls, lists_of}
use Rattle.graph_law.proofs.GraphLaws.{lists_of-push}
use Rattle.graph_law.proofs.Rows.{rows_more}
use Rattle.graph_law.proofs.classes.reach_rows.Goals as goal

pub loop-node-preserved : goal.loop-node-preserved
loop-node-preserved c =
    rw (c.in_ok-push.ensures.items, lists_of-push c.loop-node.rows.items c.in_ok-reached_from.field-0)
    (rows_more (Calls c.args.graph.now.lists) (length c.args.graph.now.lists) c.loop-node.node (lists_of c.loop-node.rows.items)
    c.in_ok-reached_from.field-0.items c.loop-node.invariant c.in_ok-reached_from.ensures)
