-- What is right to say of a text without faults.
use Rattle.std.proofs.Common.{ℕ, List}
use Rattle.component_answer.specs.Answers.{IsAnswer, IsSaidAnswer}
use Rattle.component_answer.specs.Inputs.{IsFaultless, said_by}
use Rattle.component_answer.specs.declared.answer.Answer.{Answer}
use Rattle.component_answer.specs.declared.answer.Answer.TheVariants.{Report, Fault, TooManyEdges, TooManyNodes, NoNode}
use Rattle.component_answer.specs.declared.answer.Wanted.{Wanted}

pub faultless_answer : (text : List ℕ) (roots : List (List ℕ)) (wanted : Wanted) (answer : Answer) → IsFaultless wanted.from_json text
    → IsSaidAnswer (said_by wanted.from_json text) roots wanted answer → IsAnswer text roots wanted answer
faultless_answer text roots wanted (Fault fault) none right = absurd right
faultless_answer text roots wanted TooManyEdges none right = (none, right)
faultless_answer text roots wanted TooManyNodes none right = (none, right)
faultless_answer text roots wanted (NoNode place) none right = (none, right)
faultless_answer text roots wanted (Report bytes) none right = (none, right)
