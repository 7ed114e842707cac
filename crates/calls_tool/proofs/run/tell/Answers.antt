use Rattle.std.proofs.Common.{Ok, Err, refl}
use Rattle.call_told.specs.Wanted.{see_wanted}
use Rattle.calls_tool.specs.Calls.{calls_tool}
use Rattle.tool_run.specs.Run.{EndIs}
use Rattle.tool_run.specs.Stop.{end_of}
use Rattle.tool_run.specs.Wanted.{IsJust}
use Rattle.tool_run.proofs.EndLemmas.{carries, files_end, handed_on}
use Rattle.calls_tool.proofs.run.tell.Goals as goal

pub returns-in_err-program : goal.returns-in_err-program
returns-in_err-program g c =
    let asked = see_wanted c.args.wanted.now in
    handed_on (EndIs calls_tool (IsJust asked) _) c.from_residual.result c.in_err-program.field-0.0 c.from_residual.ensures.1
    (files_end calls_tool asked _ c.deref.result.now _ refl c.deref.ensures.value (carries calls_tool asked c.deref.result.now _ (Err c.in_err-program.field-0.0) c.in_err-program.ensures))

pub returns : goal.returns
returns g c =
    let asked = see_wanted c.args.wanted.now in
    files_end calls_tool asked _ c.deref.result.now _ refl c.deref.ensures.value
    (carries calls_tool asked c.deref.result.now _ (Ok c.in_ok-program.program) c.in_ok-program.ensures (end_of c.tell_program-told.result) c.tell_program-told.ensures)
