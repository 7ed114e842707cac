use Rattle.laws.proofs.EachText as of_files
use Rattle.laws.proofs.file.answered.facts_or_refusal.Goals as goal

pub returns : goal.returns
returns c = λ name trees. of_files.facts_or_refusal name trees
