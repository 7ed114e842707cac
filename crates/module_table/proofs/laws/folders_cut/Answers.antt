use Rattle.module_table.proofs.PathNames as of_paths
use Rattle.module_table.proofs.laws.folders_cut.Goals as goal

pub returns : goal.returns
returns c = λ name. of_paths.folders_cut name
