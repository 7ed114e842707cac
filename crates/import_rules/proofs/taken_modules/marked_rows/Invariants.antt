use Rattle.std.proofs.Common.{map, take}
use Rattle.import_rules.specs.Clashes.{see_item}
use Rattle.import_rules.specs.TakenModules.{AreMarked, HaveSize}
use Rattle.import_rules.proofs.taken_modules.marked_rows.Given as goal

-- the marks of the items so far
abbrev pub invariant-loop-pair : goal.invariant-loop-pair
invariant-loop-pair l = HaveSize l.size l.rows.items × AreMarked l.modules (map see_item (take l.pair-index l.pairs)) l.rows.items
