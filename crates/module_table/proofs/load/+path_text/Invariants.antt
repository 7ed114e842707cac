use Rattle.prolog_terms.specs.Tree.{depth}
use Rattle.prolog_terms.specs.Terms.{tree_of}
use Rattle.module_table.proofs.load.+path_text.Given as goal

abbrev pub decreases-path_text : goal.decreases-path_text
decreases-path_text l = depth (tree_of l.term.now)
