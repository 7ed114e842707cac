use Rattle.prolog_tokens.proofs.Faults.{one_fault}
use Rattle.prolog_tokens.proofs.laws.one_fault.Goals as goal

pub returns : goal.returns
returns c = one_fault
