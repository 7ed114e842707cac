use Rattle.std.proofs.Common.{◌≡◌, ◌++◌, not, map, filter, take}
use Rattle.clause_text.specs.declared.cause.Cause.TheVariants.{NotDefined}
use Rattle.module_table.specs.declared.indicator.Indicator.{Indicator}
use Rattle.module_table.specs.Facts.{see_facts}
use Rattle.import_rules.specs.Files.{is_local}
use Rattle.import_rules.specs.Findings.{see_findings}
use Rattle.import_rules.specs.Flaws.{flaw, exported}
use Rattle.import_rules.specs.KnownFiles.{files_of}
use Rattle.import_rules.proofs.flaws.push_export_flaws.Given as goal

-- the exports so far that aren't local
abbrev pub invariant-loop-export : goal.invariant-loop-export
invariant-loop-export l =
    see_findings l.flaws.items
    ≡ see_findings l.initial.flaws.items
    ++ map (λ (e : Indicator). flaw NotDefined (see_facts l.file) e.from)
    (filter (λ (e : Indicator). not (is_local (files_of l.lookups) (exported (see_facts l.file) e))) (take l.export-index l.export-items))
