use Rattle.std.proofs.Common.{map}
use Rattle.module_table.specs.Facts.{see_facts}
use Rattle.import_rules.specs.Metas.{AreDeclared}
use Rattle.import_rules.proofs.MetasSoFar.{files_below}
use Rattle.import_rules.proofs.meta_places.meta_places.Given as goal

-- the declarations of the files so far
abbrev pub invariant-loop-place : goal.invariant-loop-place
invariant-loop-place l = AreDeclared (files_below (map see_facts l.files) l.place) l.predicates l.kept.items
