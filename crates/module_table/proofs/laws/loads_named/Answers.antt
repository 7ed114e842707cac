use Rattle.module_table.proofs.ClausesOf as of_files
use Rattle.module_table.proofs.laws.loads_named.Goals as goal

pub returns : goal.returns
returns c = λ user trees facts are. of_files.loads_named user trees facts are
