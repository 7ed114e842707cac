use Rattle.laws.proofs.Turns as of_turns
use Rattle.laws.proofs.file.said.parts_kept.Goals as goal

pub returns-clause-parts : goal.returns-clause-parts
returns-clause-parts c = λ user trees parts. of_turns.parts_told user trees parts

pub returns-clause-facts : goal.returns-clause-facts
returns-clause-facts c = λ user trees facts are. of_turns.facts_of_each user trees facts are
