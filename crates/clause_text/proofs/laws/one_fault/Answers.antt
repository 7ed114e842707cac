use Rattle.clause_text.proofs.OneFault as of_texts
use Rattle.clause_text.proofs.laws.one_fault.Goals as goal

pub returns : goal.returns
returns c = λ text fault second has also. of_texts.one_fault text fault second has also
