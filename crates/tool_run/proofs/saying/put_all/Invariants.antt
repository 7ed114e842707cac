use Rattle.std.proofs.Common.{◌≡◌, ◌≤◌, ◌-◌, length, take}
use Rattle.tool_run.specs.Sink.{more_taken}
use Rattle.tool_run.proofs.saying.put_all.Given as goal

abbrev pub invariant-loop-at : goal.invariant-loop-at
invariant-loop-at g l =
    (l.at ≤ length l.bytes) × ((g.S.Sink.seen l.sink).taken ≡ more_taken (g.S.Sink.seen l.initial.sink).taken (take l.at l.bytes))
    × ((g.S.Sink.seen l.initial.sink).faults ≤ (g.S.Sink.seen l.sink).faults)

abbrev pub decreases-loop-at : goal.decreases-loop-at
decreases-loop-at g l = length l.bytes - l.at
