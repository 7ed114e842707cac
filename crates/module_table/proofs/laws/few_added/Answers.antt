use Rattle.module_table.proofs.ClausesOf as of_files
use Rattle.module_table.proofs.laws.few_added.Goals as goal

pub returns : goal.returns
returns c = λ user trees facts are. of_files.metas_small user trees facts are
