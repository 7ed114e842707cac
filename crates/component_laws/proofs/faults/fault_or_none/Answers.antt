use Rattle.component_laws.proofs.TextFaults as of_text
use Rattle.component_laws.proofs.faults.fault_or_none.Goals as goal

pub returns : goal.returns
returns c = of_text.fault_or_none
