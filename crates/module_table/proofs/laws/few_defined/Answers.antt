use Rattle.module_table.proofs.FewDefined as of_files
use Rattle.module_table.proofs.laws.few_defined.Goals as goal

pub returns-clause-defined : goal.returns-clause-defined
returns-clause-defined c = λ user trees facts are. of_files.few_defined user trees facts are

pub returns-clause-metas : goal.returns-clause-metas
returns-clause-metas c = λ user trees facts are. of_files.few_metas user trees facts are
