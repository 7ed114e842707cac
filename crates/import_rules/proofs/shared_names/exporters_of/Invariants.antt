use Rattle.std.proofs.Common.{◌≡◌, length, map, take}
use Rattle.import_rules.specs.Clashes.{see_item}
use Rattle.import_rules.specs.SharedNames.{AreExporters}
use Rattle.import_rules.proofs.shared_names.exporters_of.Given as goal

-- the exporters of the offers so far
abbrev pub invariant-loop-offer : goal.invariant-loop-offer
invariant-loop-offer l =
    (length l.lists.items ≡ l.size) × AreExporters l.taken.modules l.predicates (map see_item (take l.offer-index l.offers)) l.names l.lists.items
