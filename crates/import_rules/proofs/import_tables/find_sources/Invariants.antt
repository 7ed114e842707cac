use Rattle.std.proofs.Common.{◌≡◌, AllPairs, map, take}
use Rattle.std.specs.declared.cmp.Ordering.TheVariants.{Less}
use Rattle.import_rules.specs.Clashes.{see_item}
use Rattle.import_rules.specs.Names.{pred_cmp}
use Rattle.import_rules.specs.Sources.{AreSources}
use Rattle.import_rules.proofs.import_tables.find_sources.Given as goal

-- the names that the items so far give, in order
abbrev pub invariant-loop-item : goal.invariant-loop-item
invariant-loop-item l =
    AreSources l.predicates (map see_item (take l.item-index l.items)) l.made.names.items l.made.targets.items
    × AllPairs (λ p q. pred_cmp p q ≡ Less) l.made.names.items
