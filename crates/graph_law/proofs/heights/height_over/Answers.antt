use Rattle.std.proofs.Common.{take, get_or}
use Rattle.std.proofs.lemmas.List.{take_more}
use Rattle.graph_law.proofs.HeightSteps.{lead_skip, lead_more}
use Rattle.graph_law.proofs.heights.height_over.Goals as goal

pub loop-callee-preserved-then-other-place : goal.loop-callee-preserved-then-other-place
loop-callee-preserved-then-other-place c =
    rw (take_more c.args.callees.now c.loop-callee.callee-index 0 c.loop-callee-test.true)
    (lead_skip c.args.places.now c.args.place (take c.loop-callee.callee-index c.args.callees.now)
    (get_or c.args.callees.now c.loop-callee.callee-index 0) c.args.heights.now c.loop-callee.height c.if-other-place.true
    c.loop-callee.invariant)

pub loop-callee-preserved : goal.loop-callee-preserved
loop-callee-preserved c =
    rw (c.max-height.ensures, take_more c.args.callees.now c.loop-callee.callee-index 0 c.loop-callee-test.true)
    (lead_more c.args.places.now c.args.place (take c.loop-callee.callee-index c.args.callees.now)
    (get_or c.args.callees.now c.loop-callee.callee-index 0) c.args.heights.now c.loop-callee.height c.if-other-place.false
    c.loop-callee.invariant)
