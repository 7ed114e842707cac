use Rattle.std.proofs.Common.{take, get_or}
use Rattle.std.proofs.lemmas.List.{take_more}
use Rattle.graph_law.proofs.StampSteps.{stamped_none, stamped_more}
use Rattle.graph_law.proofs.stamping.stamp.Goals as goal

pub loop-node-init : goal.loop-node-init
loop-node-init g c = stamped_none c.args.value c.args.table.now

pub loop-node-preserved : goal.loop-node-preserved
loop-node-preserved g c =
    rw (take_more c.args.nodes.now c.loop-node.node-index 0 c.loop-node-test.true)
    (stamped_more (take c.loop-node.node-index c.args.nodes.now) (get_or c.args.nodes.now c.loop-node.node-index 0) c.args.value
    c.args.table.now c.loop-node.table (c.requires c.loop-node.node-index 0 c.loop-node-test.true) c.loop-node.invariant)
