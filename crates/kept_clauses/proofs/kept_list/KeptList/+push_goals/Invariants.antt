use Rattle.prolog_terms.specs.Terms.{tree_of}
use Rattle.prolog_terms.specs.Weight.{weight}
use Rattle.kept_clauses.proofs.kept_list.KeptList.+push_goals.Given as goal

abbrev pub decreases-push_goals : goal.decreases-push_goals
decreases-push_goals l = weight (tree_of l.body.now)
