use Rattle.module_table.proofs.OwnNames as of_paths
use Rattle.module_table.proofs.laws.one_name.Goals as goal

pub returns : goal.returns
returns c = λ name other it also same. of_paths.one_name name other it also same
