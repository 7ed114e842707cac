use Rattle.std.proofs.Common.{◌+◌, ◌*◌}
use Rattle.prolog_terms.specs.Terms.{tree_of, trees_of}
use Rattle.prolog_terms.specs.Weight.{weight, weights}
use Rattle.text_rows.proofs.terms.+writing.Given as goal

-- each part weighs less than what it is a part of

abbrev pub decreases-write_parts : goal.decreases-write_parts
decreases-write_parts l = 4 * weights (trees_of l.parts.now)

abbrev pub decreases-write_items : goal.decreases-write_items
decreases-write_items l = 4 * weights (trees_of l.items.now) + 1

abbrev pub decreases-write_compound : goal.decreases-write_compound
decreases-write_compound l = 4 * weights (trees_of l.args.now) + 2

abbrev pub decreases-write_term : goal.decreases-write_term
decreases-write_term l = 4 * weight (tree_of l.term.now) + 3

abbrev pub decreases-write_between : goal.decreases-write_between
decreases-write_between l = 4 * weight (tree_of l.inner.now) + 4

abbrev pub decreases-write_tailed : goal.decreases-write_tailed
decreases-write_tailed l = 4 * weights (trees_of l.items.now) + 4 * weight (tree_of l.tail.now) + 5
