use Rattle.clause_text.proofs.CauseNumbers as of_causes
use Rattle.clause_text.proofs.laws.numbers_differ.Goals as goal

pub returns : goal.returns
returns c = λ a b same. of_causes.one_number a b same
