use Rattle.group_words.specs.Settings.{see_options}
use Rattle.group_tool.specs.Groups.{groups_tool}
use Rattle.tool_run.specs.Run.{EndIs}
use Rattle.tool_run.specs.Wanted.{IsJust}
use Rattle.tool_run.specs.Stop.{end_of}
use Rattle.tool_run.proofs.EndLemmas.{handed_on}
use Rattle.group_tool.proofs.answer.report_lawful.Goals as goal

pub returns-in_err-program : goal.returns-in_err-program
returns-in_err-program g c =
    handed_on (EndIs groups_tool (IsJust (see_options c.args.options.now)) _) c.from_residual.result c.in_err-program.field-0.0 c.from_residual.ensures.1 c.in_err-program.ensures

pub returns : goal.returns
returns g c = c.in_ok-program.ensures (end_of c.tell-told.result) c.tell-told.ensures
