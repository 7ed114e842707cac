use Rattle.loop_paths.proofs.Meeting.{IsMeeting}
use Rattle.loop_paths.proofs.breadth.meet.Given as goal

abbrev pub invariant-loop-callee : goal.invariant-loop-callee
invariant-loop-callee l =
    IsMeeting l.initial.tree.nodes.items l.initial.tree.callers.items l.initial.seen l.place l.callees l.callee-index l.tree.nodes.items l.tree.callers.items l.seen
