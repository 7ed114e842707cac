use Rattle.node_claims.proofs.Failure.{failure_stays}
use Rattle.node_claims.proofs.laws.failure_stays.Goals as goal

pub returns : goal.returns
returns c = failure_stays
