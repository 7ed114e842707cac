use Rattle.module_table.proofs.FactOffsets as of_files
use Rattle.module_table.proofs.laws.refusals_placed.Goals as goal

pub returns : goal.returns
returns c = λ text user trees refusal all is. of_files.refusals_placed text user trees refusal all is
