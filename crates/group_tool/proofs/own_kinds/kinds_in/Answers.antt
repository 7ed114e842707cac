use Rattle.group_tool.proofs.KindLemmas.{kinds_next_at, kinds_none, kinds_whole}
use Rattle.group_tool.proofs.own_kinds.kinds_in.Goals as goal

pub loop-one-init : goal.loop-one-init
loop-one-init c = kinds_none

pub loop-one-preserved : goal.loop-one-preserved
loop-one-preserved c =
    kinds_next_at c.args.program.now c.args.met.now c.loop-one.one-index _ c.loop-one.all c.kinds_met-own.result c.loop-one-test.true
    c.kinds_met-own.ensures c.loop-one.invariant

pub returns : goal.returns
returns c = kinds_whole c.args.program.now c.args.met.now c.loop-one.one-index c.loop-one.all c.loop-one-test.false c.loop-one.invariant
