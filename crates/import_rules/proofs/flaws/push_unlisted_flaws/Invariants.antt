use Rattle.std.proofs.Common.{◌≡◌, ◌++◌, not, map, filter, take}
use Rattle.clause_text.specs.declared.cause.Cause.TheVariants.{NotExported}
use Rattle.module_table.specs.declared.indicator.Indicator.{Indicator}
use Rattle.module_table.specs.Facts.{see_facts}
use Rattle.import_rules.specs.Files.{has_export}
use Rattle.import_rules.specs.Findings.{see_findings}
use Rattle.import_rules.specs.Flaws.{flaw}
use Rattle.import_rules.specs.KnownFiles.{see_known}
use Rattle.import_rules.proofs.flaws.push_unlisted_flaws.Given as goal

-- the indicators so far that aren't exported
abbrev pub invariant-loop-indicator : goal.invariant-loop-indicator
invariant-loop-indicator l =
    see_findings l.flaws.items
    ≡ see_findings l.initial.flaws.items
    ++ map (λ (i : Indicator). flaw NotExported (see_facts l.user) i.from) (filter (λ (i : Indicator). not (has_export (see_known l.file) i)) (take l.indicator-index l.indicator-items))
