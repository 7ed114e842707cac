use Rattle.call_told.specs.Wanted.{AreAsked}
use Rattle.call_told.proofs.OneAsked.{one_asked}
use Rattle.calls_tool.specs.Calls.{calls_tool}
use Rattle.tool_run.proofs.OneAnswer.{one_answer}
use Rattle.laws.proofs.OneToldEnd.{told_once}
use Rattle.laws.proofs.told.one_told_answer.Goals as goal

pub returns : goal.returns
returns c = λ words files answer other lines is also.
    one_answer calls_tool (AreAsked words) (one_asked words) (λ asked lawful. told_once asked (lines asked lawful)) files answer other is also
