use Rattle.std.proofs.Common.{◌≡◌, map}
use Rattle.module_table.specs.Facts.{see_facts}
use Rattle.import_rules.specs.Parts.{see_part}
use Rattle.import_rules.proofs.PartsSoFar.{files_below}
use Rattle.import_rules.proofs.part.parts_of.Given as goal

abbrev pub invariant-loop-place : goal.invariant-loop-place
invariant-loop-place l = map (see_part l.files) l.parts.items ≡ files_below (map see_facts l.files) l.place
