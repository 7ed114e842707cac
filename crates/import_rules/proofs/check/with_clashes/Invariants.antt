use Rattle.std.proofs.Common.{◌≡◌, ◌++◌, map, take}
use Rattle.import_rules.specs.Clashes.{see_item}
use Rattle.import_rules.specs.Findings.{see_findings}
use Rattle.import_rules.specs.Flaws.{clash_flaw}
use Rattle.import_rules.proofs.check.with_clashes.Given as goal

-- the clashes so far
abbrev pub invariant-loop-clash : goal.invariant-loop-clash
invariant-loop-clash l = see_findings l.flaws.items ≡ see_findings l.initial.flaws.items ++ map clash_flaw (map see_item (take l.clash-index l.clashes))
