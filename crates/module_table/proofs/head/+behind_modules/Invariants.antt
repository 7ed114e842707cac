use Rattle.prolog_terms.specs.Tree.{depth}
use Rattle.prolog_terms.specs.Terms.{tree_of}
use Rattle.module_table.proofs.head.+behind_modules.Given as goal

abbrev pub decreases-behind_modules : goal.decreases-behind_modules
decreases-behind_modules l = depth (tree_of l.term.now)
