use Rattle.std.proofs.Common.{sym, subst}
use Rattle.byte_names.specs.Names.{names_of}
use Rattle.edge_text.specs.EdgeGraph.{said_in}
use Rattle.component_answer.specs.Answers.{IsSaidAnswer}
use Rattle.component_answer.specs.Inputs.{IsFaultless, said_by}
use Rattle.component_answer.proofs.SaidAnswer.{faultless_answer}
use Rattle.component_answer.proofs.answer.answer_words.Goals as goal

pub answer_reading-requires-clause-read : goal.answer_reading-requires-clause-read
answer_reading-requires-clause-read g c = (said_in c.args.text.now, c.in_ok-reading.ensures)

pub returns : goal.returns
returns g c =
    let text = c.args.text.now in
    let roots = names_of c.args.roots.now in
    let answer = c.in_ok-answer.answer in
    faultless_answer text roots c.args.wanted answer (subst (λ b. IsFaultless b text) (sym c.requires.words) c.in_default.ensures)
    (subst (λ b. IsSaidAnswer (said_by b text) roots c.args.wanted answer) (sym c.requires.words)
    (c.in_ok-answer.ensures (said_in text) c.in_ok-reading.ensures))
