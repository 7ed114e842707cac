use Rattle.std.proofs.Common.{◌≡◌, ◌++◌, map, take}
use Rattle.prolog_terms.specs.Tree.{depth, trees_from}
use Rattle.prolog_terms.specs.Terms.{tree_of}
use Rattle.module_table.specs.Metas.{all_takes, see_meta}
use Rattle.module_table.proofs.meta.+push_takes.Given as goal

abbrev pub decreases-push_takes : goal.decreases-push_takes
decreases-push_takes l = depth (tree_of l.term.now)

-- what the items so far declare
abbrev pub invariant-loop-item : goal.invariant-loop-item
invariant-loop-item l =
    map see_meta l.takes.items ≡ map see_meta l.fn.takes.items ++ all_takes l.owner (trees_from (map tree_of (take l.item-index l.item-items)))
