use Rattle.std.proofs.Common.{◌≡◌, take}
use Rattle.report_lines.specs.Head.{height_count}
use Rattle.report_lines.proofs.counts.height_count.Given as goal

-- the levels so far
abbrev pub invariant-loop-level : goal.invariant-loop-level
invariant-loop-level l = l.count ≡ height_count (take l.level-index l.levels)
