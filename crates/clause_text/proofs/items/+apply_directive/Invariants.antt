use Rattle.prolog_terms.specs.Tree.{depth}
use Rattle.prolog_terms.specs.Terms.{tree_of}
use Rattle.clause_text.proofs.items.+apply_directive.Given as goal

abbrev pub decreases-apply_directive : goal.decreases-apply_directive
decreases-apply_directive l = depth (tree_of l.directive.now)
