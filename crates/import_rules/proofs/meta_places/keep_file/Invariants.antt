use Rattle.std.proofs.Common.{◌≡◌, ◌≢◌, ◌++◌, [], List, length}
use Rattle.module_table.specs.Facts.{see_facts}
use Rattle.import_rules.specs.Metas.{MetaAt, AreDeclared}
use Rattle.import_rules.proofs.MetasSoFar.{metas_below}
use Rattle.import_rules.proofs.meta_places.keep_file.Given as goal

-- the declarations so far
abbrev pub invariant-loop-at : goal.invariant-loop-at
invariant-loop-at l = record {
  long : l.kept.items ≢ [] → length l.kept.items ≡ length l.predicates;
  declared : (done : List MetaAt) → AreDeclared done l.predicates l.fn.kept.items → AreDeclared (done ++ metas_below l.place (see_facts l.file) l.at) l.predicates l.kept.items;
}
