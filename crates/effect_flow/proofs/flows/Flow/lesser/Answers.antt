use Rattle.std.proofs.Common.{◌<◌, arith}
use Rattle.effect_flow.proofs.LeastOnes.{lesser_seen}
use Rattle.effect_flow.proofs.flows.Flow.lesser.Goals as goal

pub returns : goal.returns
returns c = λ kind low.
    let inside : kind < c.loop-kind.kind = omega (arith, low, c.loop-kind-test.false, c.loop-kind.auto.kind-end) in
    lesser_seen c.args.self.now.firsts c.args.other.now.firsts c.loop-kind.firsts kind (omega (arith, low, c.loop-kind.invariant.each))
    (omega (arith, low, c.loop-kind.invariant.one)) (omega (arith, low, c.loop-kind.invariant.other))
    (c.loop-kind.invariant.done kind inside) (c.loop-kind.invariant.low kind inside).0 (c.loop-kind.invariant.low kind inside).1
