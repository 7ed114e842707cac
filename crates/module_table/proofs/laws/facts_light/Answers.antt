use Rattle.module_table.proofs.FactWeights as of_files
use Rattle.module_table.proofs.laws.facts_light.Goals as goal

pub returns-clause-clauses : goal.returns-clause-clauses
returns-clause-clauses c = λ n user trees facts all are. of_files.clauses_light n user trees facts all are

pub returns-clause-goals : goal.returns-clause-goals
returns-clause-goals c = λ n user trees facts all are. of_files.goals_light n user trees facts all are

pub returns-clause-metas : goal.returns-clause-metas
returns-clause-metas c = λ n user trees facts all are. of_files.metas_light n user trees facts all are
