use Rattle.std.proofs.Common.{refl}
use Rattle.group_words.specs.Settings.{AreLawful, see_options}
use Rattle.group_words.proofs.OneSettings.{one_settings}
use Rattle.group_tool.specs.Groups.{groups_tool}
use Rattle.tool_run.proofs.KeepLemmas.{asked_keeps, refused_keeps}
use Rattle.group_tool.proofs.run.run_groups.Goals as goal

pub returns-in-Ok-clause-run : goal.returns-in-Ok-clause-run
returns-in-Ok-clause-run g c =
    asked_keeps groups_tool (AreLawful c.args.words.now) (one_settings c.args.words.now) _ _ _ _ (see_options c.in-Ok.options) c.in-Ok.ensures.ok c.in-Ok.ensures.only
    c.run_lawful.ensures.run

pub returns-in-Err-clause-run : goal.returns-in-Err-clause-run
returns-in-Err-clause-run g c =
    refused_keeps groups_tool (AreLawful c.args.words.now) (one_settings c.args.words.now) _ _ _ _ c.in-Err.fault c.from.result c.from.ensures refl c.in-Err.ensures.usage
    c.put_end.ensures.put
