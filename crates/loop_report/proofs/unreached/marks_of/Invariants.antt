use Rattle.std.proofs.Common.{take}
use Rattle.graph_law.specs.Graph.{lists_of}
use Rattle.loop_report.proofs.Marks.{AreMarks}
use Rattle.loop_report.proofs.unreached.marks_of.Given as goal

-- the nodes in the groups so far are marked
abbrev pub invariant-loop-group : goal.invariant-loop-group
invariant-loop-group l = AreMarks l.count (take l.group-index (lists_of l.groups)) l.marks.items
