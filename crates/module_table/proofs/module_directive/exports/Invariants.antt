use Rattle.std.proofs.Common.{◌≡◌, Ok, map, take}
use Rattle.prolog_terms.specs.Terms.{tree_of}
use Rattle.module_table.specs.Said.{each_said}
use Rattle.module_table.specs.Directives.{item_exports}
use Rattle.module_table.proofs.module_directive.exports.Given as goal

-- the exports so far
abbrev pub invariant-loop-item : goal.invariant-loop-item
invariant-loop-item l = each_said item_exports (map tree_of (take l.item-index l.item-items)) ≡ Ok l.found.items
