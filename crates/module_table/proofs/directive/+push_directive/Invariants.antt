use Rattle.prolog_terms.specs.Tree.{depth}
use Rattle.prolog_terms.specs.Terms.{tree_of}
use Rattle.module_table.proofs.directive.+push_directive.Given as goal

abbrev pub decreases-push_directive : goal.decreases-push_directive
decreases-push_directive l = depth (tree_of l.directive.now)
