use Rattle.component_laws.proofs.CommandAnswers.{answer_of}
use Rattle.component_laws.proofs.answer.some_component_answer.Goals as goal

pub returns : goal.returns
returns c = λ words files. answer_of c.some_text_answer.ensures words files (c.settings_or_none.ensures words)
