use Rattle.call_edges.proofs.SuccessorLemmas.{list_has}
use Rattle.call_edges.proofs.laws.calls_told.Goals as goal

pub returns : goal.returns
returns c = list_has
