use Rattle.laws.proofs.Turns as of_turns
use Rattle.laws.proofs.file.said.first_refusal.Goals as goal

pub returns : goal.returns
returns c = λ user trees refusal. of_turns.first_refusal user trees refusal
