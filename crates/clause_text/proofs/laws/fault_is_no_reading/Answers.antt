use Rattle.clause_text.proofs.OneFault as of_texts
use Rattle.clause_text.proofs.laws.fault_is_no_reading.Goals as goal

pub returns : goal.returns
returns c = λ text fault trees has reads. of_texts.fault_no_reading text fault trees has reads
