use Rattle.std.proofs.Common.{◌≡◌, Ok, filter_map, map, take}
use Rattle.prolog_ops.specs.Table.{ops_of}
use Rattle.prolog_terms.specs.Terms.{tree_of}
use Rattle.clause_text.specs.Items.{each_on, name_on, name_of}
use Rattle.clause_text.proofs.items.set_each.Given as goal

abbrev pub invariant-loop-name : goal.invariant-loop-name
invariant-loop-name l = each_on (name_on l.kind l.priority) (filter_map name_of (map tree_of (take l.name-index l.names))) (ops_of l.fn.table) ≡ Ok (ops_of l.table)
