use Rattle.std.proofs.Common.{refl}
use Rattle.graph_law.specs.Graph.{lists_of}
use Rattle.graph_law.proofs.Rows.{marked_more}
use Rattle.graph_law.proofs.classes.class_of.Goals as goal

pub loop-other-preserved : goal.loop-other-preserved
loop-other-preserved c =
    rw c.in_ok-push.ensures.items
    (marked_more (lists_of c.args.rows.now) c.args.node c.loop-other.other c.loop-other.class.items c.loop-other.invariant
    (c.if-not-reach_each_other.ensures.0 refl))
