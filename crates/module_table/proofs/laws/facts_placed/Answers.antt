use Rattle.module_table.proofs.FactOffsets as of_files
use Rattle.module_table.proofs.laws.facts_placed.Goals as goal

pub returns : goal.returns
returns c = λ text user trees facts all are. of_files.facts_placed text user trees facts all are
