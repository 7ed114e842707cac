use Rattle.prolog_terms.specs.Tree.{depth}
use Rattle.prolog_terms.specs.Terms.{tree_of}
use Rattle.clause_text.proofs.items.+directive_has_items.Given as goal

abbrev pub decreases-directive_has_items : goal.decreases-directive_has_items
decreases-directive_has_items l = depth (tree_of l.directive.now)
