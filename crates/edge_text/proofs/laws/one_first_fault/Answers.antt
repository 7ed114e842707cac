use Rattle.edge_text.proofs.FirstFaults.{one_fault}
use Rattle.edge_text.proofs.laws.one_first_fault.Goals as goal

pub returns : goal.returns
returns c = one_fault
