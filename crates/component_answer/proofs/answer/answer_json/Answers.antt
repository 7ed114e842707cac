use Rattle.std.proofs.Common.{sym, subst, ap, ◌∙◌}
use Rattle.byte_names.specs.Names.{names_of}
use Rattle.edge_text.specs.Readings.{IsReading}
use Rattle.edge_json.specs.Faults.{IsDecoded}
use Rattle.edge_json.specs.Said.{json_said, said_of}
use Rattle.edge_json.specs.declared.decoded.Decoded.TheVariants.{Lines}
use Rattle.component_answer.specs.Answers.{IsSaidAnswer}
use Rattle.component_answer.specs.Inputs.{IsFaultless, said_by}
use Rattle.component_answer.proofs.SaidAnswer.{faultless_answer}
use Rattle.component_answer.proofs.answer.answer_json.Goals as goal

pub answer_reading-requires-clause-read : goal.answer_reading-requires-clause-read
answer_reading-requires-clause-read g c = (said_of c.deref.result.now, c.in_ok-reading-in-Lines.ensures)

pub returns-in_ok-answer-in-Lines : goal.returns-in_ok-answer-in-Lines
returns-in_ok-answer-in-Lines g c =
    let text = c.args.text.now in
    let roots = names_of c.args.roots.now in
    let answer = c.in_ok-answer-in-Lines.answer in
    let decoded : IsDecoded text (Lines c.in-Lines.lines) = subst (IsDecoded text) c.in-Lines.is c.in_ok-line.ensures in
    let read : IsReading (json_said text) c.in_ok-reading-in-Lines.reading =
    subst (λ said. IsReading said c.in_ok-reading-in-Lines.reading) (ap said_of c.deref.ensures.value ∙ decoded.0) c.in_ok-reading-in-Lines.ensures in
    faultless_answer text roots c.args.wanted answer (subst (λ b. IsFaultless b text) (sym c.requires.json) decoded.1)
    (subst (λ b. IsSaidAnswer (said_by b text) roots c.args.wanted answer) (sym c.requires.json)
    (c.in_ok-answer-in-Lines.ensures (json_said text) read))
