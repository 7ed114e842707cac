use Rattle.module_table.proofs.ClausesOf as of_files
use Rattle.module_table.proofs.laws.clauses_kept.Goals as goal

pub returns-clause-are : goal.returns-clause-are
returns-clause-are c = λ user trees facts are p has. of_files.clauses_are user trees facts are p has

pub returns-clause-all : goal.returns-clause-all
returns-clause-all c = λ user trees facts are tree has none. of_files.clauses_stay user trees facts are tree has none
