use Rattle.std.proofs.Common.{◌≡◌, false, All, take}
use Rattle.import_rules.specs.declared.shared_names.Exporter.{Exporter}
use Rattle.import_rules.specs.TakenModules.{marked_at}
use Rattle.import_rules.proofs.shared_names.SharedNames.taken_at.Given as goal

-- the module takes none of the exporters so far
abbrev pub invariant-loop-exporter : goal.invariant-loop-exporter
invariant-loop-exporter l = All (λ (e : Exporter). marked_at l.taken.rows.items l.user e.from ≡ false) (take l.exporter-index l.exporter-items)
