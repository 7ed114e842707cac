use Rattle.laws.proofs.EachText as of_files
use Rattle.laws.proofs.file.answered.file_or_fault.Goals as goal

pub returns : goal.returns
returns c = λ name text. of_files.file_or_fault name text (c.cut_or_fault.ensures text) (λ ops lawful ts. c.clause_or_fault.ensures ops lawful text ts)
