use Rattle.effect_flow.proofs.OneNode.{one_node, set_next, unset_next}
use Rattle.effect_flow.proofs.flows.Flow.of.Goals as goal

pub loop-kind-preserved-then-kinds-kind-ne1 : goal.loop-kind-preserved-then-kinds-kind-ne1
loop-kind-preserved-then-kinds-kind-ne1 c =
    unset_next c.args.node c.args.kinds c.loop-kind.kind c.loop-kind.firsts c.loop-kind-test.true c.if-kinds-kind-ne1.true c.loop-kind.invariant

pub loop-kind-preserved : goal.loop-kind-preserved
loop-kind-preserved c =
    set_next c.args.node c.args.kinds c.loop-kind.kind c.loop-kind.firsts c.loop-kind-test.true c.if-kinds-kind-ne1.false c.loop-kind.invariant

pub returns : goal.returns
returns c =
    one_node c.args.node c.args.kinds c.loop-kind.firsts c.loop-kind.kind c.requires c.loop-kind-test.false c.loop-kind.invariant
