use Rattle.clause_text.proofs.OneReading as of_texts
use Rattle.clause_text.proofs.laws.one_reading.Goals as goal

pub returns : goal.returns
returns c = λ text trees others reads also. of_texts.one_reading text trees others reads also
