use Rattle.std.proofs.Common.{◌<◌, get_or, length, arith}
use Rattle.loop_paths.proofs.Meeting.{meeting_skip, meeting_push, meeting_done}
use Rattle.loop_paths.proofs.breadth.meet.Goals as goal

pub loop-callee-preserved-then-seen-callee : goal.loop-callee-preserved-then-seen-callee
loop-callee-preserved-then-seen-callee c =
    let i = c.loop-callee.callee-index in
    let callees = c.args.callees.now in
    let each = c.loop-callee.invariant.each in
    let below = c.requires.below i 0 c.loop-callee-test.true in
    meeting_skip c.args.tree.now.nodes.items c.args.tree.now.callers.items c.args.seen.now c.args.place callees i c.loop-callee.tree.nodes.items
    c.loop-callee.tree.callers.items c.loop-callee.seen c.loop-callee.invariant c.loop-callee-test.true
    c.if-seen-callee.true

pub loop-callee-preserved : goal.loop-callee-preserved
loop-callee-preserved c =
    let i = c.loop-callee.callee-index in
    let callees = c.args.callees.now in
    let each = c.loop-callee.invariant.each in
    let below = c.requires.below i 0 c.loop-callee-test.true in
    let small : get_or callees i 0 < length c.loop-callee.seen = omega (arith, each, below) in
    rw (c.in_ok-push.ensures.nodes, c.in_ok-push.ensures.callers)
    (meeting_push c.args.tree.now.nodes.items c.args.tree.now.callers.items c.args.seen.now c.args.place callees i c.loop-callee.tree.nodes.items
    c.loop-callee.tree.callers.items c.loop-callee.seen c.loop-callee.invariant c.requires.ascending c.loop-callee-test.true small
    c.if-seen-callee.false)

pub returns-clause-grown : goal.returns-clause-grown
returns-clause-grown c =
    meeting_done c.args.tree.now.nodes.items c.args.tree.now.callers.items c.args.seen.now c.args.place c.args.callees.now
    c.loop-callee.callee-index c.loop-callee.tree.nodes.items c.loop-callee.tree.callers.items c.loop-callee.seen c.loop-callee.invariant
    (omega arith)
