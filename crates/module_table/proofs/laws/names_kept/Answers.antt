use Rattle.module_table.proofs.OwnNames as of_paths
use Rattle.module_table.proofs.laws.names_kept.Goals as goal

pub returns-clause-alone : goal.returns-clause-alone
returns-clause-alone c = λ name is. of_paths.kept_alone name is

pub returns-clause-from_the_root : goal.returns-clause-from_the_root
returns-clause-from_the_root c = λ user name is root. of_paths.kept_rooted user name is root
