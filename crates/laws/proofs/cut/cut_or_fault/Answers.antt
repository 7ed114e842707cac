use Rattle.laws.proofs.Cuts.{cut_or_fault}
use Rattle.laws.proofs.cut.cut_or_fault.Goals as goal

pub returns : goal.returns
returns c = cut_or_fault
