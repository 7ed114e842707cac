use Rattle.call_edges.proofs.GoalFaultLemmas.{one_list}
use Rattle.call_edges.proofs.laws.one_list_of_faults.Goals as goal

pub returns : goal.returns
returns c = one_list
