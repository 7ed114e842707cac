use Rattle.laws.proofs.EachText as of_files
use Rattle.laws.proofs.file.answered.reading_or_fault.Goals as goal

pub returns : goal.returns
returns c = λ text. of_files.reading_or_fault text (c.cut_or_fault.ensures text) (λ ops lawful ts. c.clause_or_fault.ensures ops lawful text ts)
