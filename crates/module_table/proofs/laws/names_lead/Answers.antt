use Rattle.module_table.proofs.PathNames as of_paths
use Rattle.module_table.proofs.laws.names_lead.Goals as goal

pub returns : goal.returns
returns c = λ user spec name is place. of_paths.names_lead user spec name is place
