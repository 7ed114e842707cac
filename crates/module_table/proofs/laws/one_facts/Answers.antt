use Rattle.module_table.proofs.OneFacts as of_files
use Rattle.module_table.proofs.laws.one_facts.Goals as goal

pub returns : goal.returns
returns c = λ user trees facts other a b. of_files.one_facts user trees facts other a b
