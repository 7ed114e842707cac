use Rattle.edge_json.proofs.Faults.{one_fault}
use Rattle.edge_json.proofs.laws.one_line_fault.Goals as goal

pub returns : goal.returns
returns c = one_fault
