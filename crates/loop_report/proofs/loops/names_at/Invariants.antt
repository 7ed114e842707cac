use Rattle.std.proofs.Common.{◌≡◌, take}
use Rattle.loop_report.specs.ImportLoops.{names_at}
use Rattle.loop_report.specs.ModuleGraph.{texts_of}
use Rattle.loop_report.proofs.loops.names_at.Given as goal

-- the names so far
abbrev pub invariant-loop-member : goal.invariant-loop-member
invariant-loop-member l = l.names.items ≡ names_at (texts_of l.modules) (take l.member-index l.class)
