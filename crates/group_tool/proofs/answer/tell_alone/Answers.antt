use Rattle.std.proofs.Common.{inl, inr, refl}
use Rattle.tool_run.specs.declared.stop.Stop.TheVariants.{NoMemory}
use Rattle.group_words.specs.Settings.{see_options}
use Rattle.group_tool.specs.Groups.{groups_tool}
use Rattle.tool_run.specs.Answer.{IsLoadedEnd}
use Rattle.tool_run.proofs.EndLemmas.{handed_on}
use Rattle.group_tool.proofs.answer.tell_alone.Goals as goal

pub returns-in_err-asked : goal.returns-in_err-asked
returns-in_err-asked g c found program =
    handed_on (IsLoadedEnd groups_tool (see_options c.args.options.now) found) c.from_residual.result c.in_err-asked.field-0.0 c.from_residual.ensures.1
    (c.in_err-asked.ensures.stops found program)

pub returns-in_err-groups : goal.returns-in_err-groups
returns-in_err-groups g c found program =
    handed_on (IsLoadedEnd groups_tool (see_options c.args.options.now) found) c.from_residual-in_err-groups.result NoMemory c.from_residual-in_err-groups.ensures.1 (inl refl)

pub returns-in_err-texts : goal.returns-in_err-texts
returns-in_err-texts g c found program =
    handed_on (IsLoadedEnd groups_tool (see_options c.args.options.now) found) c.from_residual-in_err-texts.result NoMemory c.from_residual-in_err-texts.ensures.1 (inl refl)

pub returns : goal.returns
returns g c found program =
    inr (record {
      seen = c.args.program.now;
      program = record { program = program; callable = c.in_ok-asked.ensures.asked.callable };
      rooted = c.in_ok-asked.ensures.asked.rooted;
      tells = c.in_ok-texts.ensures;
    })
