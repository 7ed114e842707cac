use Rattle.prolog_terms.specs.Weight.{weight}
use Rattle.prolog_terms.specs.Terms.{tree_of}
use Rattle.call_edges.proofs.walk_home.+walk_home.Given as goal

abbrev pub decreases-walk_home : goal.decreases-walk_home
decreases-walk_home l = weight (tree_of l.term.now)
