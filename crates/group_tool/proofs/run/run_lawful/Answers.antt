use Rattle.group_words.specs.Settings.{see_options}
use Rattle.group_tool.specs.Groups.{groups_tool}
use Rattle.tool_run.specs.Stop.{end_of}
use Rattle.tool_run.specs.Wanted.{IsJust}
use Rattle.tool_run.proofs.KeepLemmas.{just_one, put_keeps}
use Rattle.group_tool.proofs.run.run_lawful.Goals as goal

pub returns-clause-run : goal.returns-clause-run
returns-clause-run g c =
    let settings = see_options c.args.options.now in
    put_keeps groups_tool (IsJust settings) (just_one settings) _ _ _ _ (end_of c.report_lawful-told.result) c.report_lawful-told.ensures c.put_end.ensures.put
