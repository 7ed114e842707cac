use Rattle.module_table.proofs.OneText as of_texts
use Rattle.module_table.proofs.laws.one_of_text.Goals as goal

pub returns-clause-facts : goal.returns-clause-facts
returns-clause-facts c = λ name text facts other is also. of_texts.same_facts name text facts other is also

pub returns-clause-fault : goal.returns-clause-fault
returns-clause-fault c = λ name text fault other is also. of_texts.same_fault name text fault other is also

pub returns-clause-never_both : goal.returns-clause-never_both
returns-clause-never_both c = λ name text fault facts is has. of_texts.faulty_no_facts name text fault facts is has
