use Rattle.std.proofs.Common.{refl}
use Rattle.group_words.specs.Settings.{see_options}
use Rattle.group_tool.specs.Groups.{groups_tool}
use Rattle.tool_run.specs.Run.{IsReadEnd}
use Rattle.tool_run.proofs.CarryingLemmas.{carried}
use Rattle.tool_run.proofs.EndLemmas.{carries, files_end}
use Rattle.group_tool.proofs.loading.load_program.Goals as goal

pub returns-in-Some : goal.returns-in-Some
returns-in-Some g c =
    carried groups_tool (see_options c.args.options.now) _ _ c.load_made.result (λ end is. is _ refl) c.load_made.ensures

pub returns-in-None : goal.returns-in-None
returns-in-None g c =
    let settings = see_options c.args.options.now in
    carried groups_tool settings (IsReadEnd groups_tool settings c.deref.result.now _) _ c.load_files.result
    (λ end is. files_end groups_tool settings _ c.deref.result.now end c.in-None.is c.deref.ensures.value is)
    (carries groups_tool settings c.deref.result.now _ c.load_files.result c.load_files.ensures)
