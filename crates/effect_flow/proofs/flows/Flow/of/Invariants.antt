use Rattle.effect_flow.proofs.OneNode.{AreSetBelow}
use Rattle.effect_flow.proofs.flows.Flow.of.Given as goal

abbrev pub invariant-loop-kind : goal.invariant-loop-kind
invariant-loop-kind l = AreSetBelow l.node l.kinds l.kind l.firsts
