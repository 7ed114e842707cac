use Rattle.module_table.proofs.PathNames as of_paths
use Rattle.module_table.proofs.laws.none_named.Goals as goal

pub returns : goal.returns
returns c = λ user spec. of_paths.none_named user spec
