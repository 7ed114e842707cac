use Rattle.std.proofs.Common.{map, take}
use Rattle.prolog_names.specs.Names.{name_at}
use Rattle.prolog_terms.specs.Tree.{depth}
use Rattle.prolog_terms.specs.Terms.{tree_of}
use Rattle.module_table.specs.declared.dynamic.Standing.TheVariants.{Item}
use Rattle.module_table.specs.Said.{each_said}
use Rattle.module_table.specs.Kept.{IsAdded}
use Rattle.module_table.specs.Dynamic.{dynamic_at}
use Rattle.module_table.proofs.dynamic.+push_dynamic.Given as goal

abbrev pub decreases-push_dynamic : goal.decreases-push_dynamic
decreases-push_dynamic l = depth (tree_of l.term.now)

-- the items so far are added
abbrev pub invariant-loop-item : goal.invariant-loop-item
invariant-loop-item l =
    IsAdded l.term.names.now l.initial.kinds (each_said (dynamic_at l.property Item (name_at l.term.names.now l.owner)) (map tree_of (take l.item-index l.item-items))) l.kinds
