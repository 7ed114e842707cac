use Rattle.prolog_terms.proofs.ClauseWeights.{clause_weight}
use Rattle.prolog_terms.proofs.laws.clause_weights.Goals as goal

pub returns : goal.returns
returns c = λ T text ts tree clause. clause_weight T text ts tree clause
