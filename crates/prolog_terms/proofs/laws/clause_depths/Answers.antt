use Rattle.prolog_terms.proofs.ClauseDepths.{clause_depth}
use Rattle.prolog_terms.proofs.laws.clause_depths.Goals as goal

pub returns : goal.returns
returns c = λ T text ts tree clause. clause_depth T text ts tree clause
