use Rattle.laws.proofs.ImportFaults.{program_or_faults}
use Rattle.laws.proofs.program.program_or_faults.Goals as goal

pub returns : goal.returns
returns c = program_or_faults
