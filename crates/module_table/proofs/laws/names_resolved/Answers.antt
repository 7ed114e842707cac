use Rattle.module_table.proofs.PathNames as of_paths
use Rattle.module_table.proofs.laws.names_resolved.Goals as goal

pub returns : goal.returns
returns c = λ user spec name is. of_paths.names_resolved user spec name is
