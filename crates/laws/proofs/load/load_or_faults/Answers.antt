use Rattle.laws.proofs.LoadOrFaults as of_map
use Rattle.laws.proofs.load.load_or_faults.Goals as goal

pub returns : goal.returns
returns c = of_map.load_or_faults c.file_or_fault.ensures
