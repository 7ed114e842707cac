use Rattle.laws.proofs.Modules as of_files
use Rattle.laws.proofs.Refused as of_examples
use Rattle.laws.proofs.TextCauses as of_texts
use Rattle.laws.proofs.file.said.fact_causes.Goals as goal

pub returns-clause-facts : goal.returns-clause-facts
returns-clause-facts c = λ user trees refusal is. of_files.fact_cause user trees refusal is

pub returns-clause-each : goal.returns-clause-each
returns-clause-each c = λ user cause is. of_examples.each_cause user cause is

pub returns-clause-texts : goal.returns-clause-texts
returns-clause-texts c = λ text fault has. of_texts.text_cause text fault has

pub returns-clause-apart : goal.returns-clause-apart
returns-clause-apart c = λ cause fact text. of_texts.apart cause fact text
