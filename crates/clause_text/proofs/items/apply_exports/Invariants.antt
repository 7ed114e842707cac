use Rattle.std.proofs.Common.{◌≡◌, Ok, filter_map, map, take}
use Rattle.prolog_ops.specs.Table.{ops_of}
use Rattle.prolog_terms.specs.Terms.{tree_of}
use Rattle.clause_text.specs.Items.{items_on, item_of}
use Rattle.clause_text.proofs.items.apply_exports.Given as goal

abbrev pub invariant-loop-export : goal.invariant-loop-export
invariant-loop-export l = items_on (filter_map item_of (map tree_of (take l.export-index l.export-items))) (ops_of l.fn.table) ≡ Ok (ops_of l.table)
