use Rattle.prolog_tokens.proofs.Faults.{fault_no_cut}
use Rattle.prolog_tokens.proofs.laws.fault_is_no_cut.Goals as goal

pub returns : goal.returns
returns c = fault_no_cut
