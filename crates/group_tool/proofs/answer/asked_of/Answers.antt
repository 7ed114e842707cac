use Rattle.std.proofs.Common.{◌≡◌, Err, IfErr, IsErrAnd, Ok, Result, sym, subst}
use Rattle.group_words.specs.Settings.{see_options}
use Rattle.group_tool.specs.Groups.{groups_tool}
use Rattle.tool_run.specs.Carrying.{ProgramComesTo}
use Rattle.tool_run.specs.Stop.{end_of_stop, of_checking, of_roots}
use Rattle.group_tool.specs.declared.asked.Asked.{Asked}
use Rattle.tool_run.specs.declared.stop.Stop.{Stop}
use Rattle.tool_run.proofs.EndLemmas.{check_end, root_end}
use Rattle.tool_run.proofs.RootLemmas.{asked_stop}
use Rattle.group_tool.proofs.answer.asked_of.Goals as goal

-- what holds of the stop holds of the error that was handed on
stops : (P : Stop → Type 0) (r : Result Asked Stop) (stop : Stop) → IsErrAnd r (λ found. found ≡ stop) → P stop → IfErr r P
stops P (Ok asked) stop is cause = absurd is
stops P (Err found) stop is cause = subst P (sym is) cause

pub returns-in_err-calls-clause-stops : goal.returns-in_err-calls-clause-stops
returns-in_err-calls-clause-stops g c =
    stops (λ stop. ProgramComesTo groups_tool (see_options c.args.options.now) c.args.program.now (end_of_stop stop))
    c.from_residual.result (of_checking c.in_err-calls.field-0.0) c.from_residual.ensures.1
    (λ found program. check_end groups_tool (see_options c.args.options.now) found c.args.program.now c.in_err-calls.field-0.0 program c.in_err-calls.ensures.refused)

pub returns-in_err-roots-clause-stops : goal.returns-in_err-roots-clause-stops
returns-in_err-roots-clause-stops g c =
    stops (λ stop. ProgramComesTo groups_tool (see_options c.args.options.now) c.args.program.now (end_of_stop stop))
    c.from_residual-in_err-roots.result (of_roots c.in_err-roots.field-0.0) c.from_residual-in_err-roots.ensures.1
    (λ found program. root_end groups_tool (see_options c.args.options.now) found c.args.program.now c.in_err-roots.field-0.0 program c.in_ok-calls.ensures.callable
    (asked_stop (see_options c.args.options.now).path (see_options c.args.options.now).roots c.args.program.now c.in_err-roots.field-0.0 c.in_err-roots.ensures.err))

pub returns-in_err-ends-clause-stops : goal.returns-in_err-ends-clause-stops
returns-in_err-ends-clause-stops g c =
    stops (λ stop. ProgramComesTo groups_tool (see_options c.args.options.now) c.args.program.now (end_of_stop stop))
    c.from_residual-in_err-ends.result (of_roots c.in_err-ends.field-0.0) c.from_residual-in_err-ends.ensures.1
    (λ found program. root_end groups_tool (see_options c.args.options.now) found c.args.program.now c.in_err-ends.field-0.0 program c.in_ok-calls.ensures.callable
    c.in_err-ends.ensures.err)
