use Rattle.group_words.specs.Settings.{see_options}
use Rattle.tool_run.specs.Say.{concatenated}
use Rattle.group_tool.proofs.GroupLemmas.{reported}
use Rattle.group_tool.proofs.parts.report_texts.Goals as goal

pub returns : goal.returns
returns g c =
    reported c.with_parts.result (see_options c.args.options.now) c.args.program.now c.args.grouped.now (concatenated c.in_ok-lines.lines.items)
    c.in_ok-effects.effects.items c.in_ok-loops.loops.items c.in_ok-path.path.items c.requires c.in_ok-lines.ensures c.in_ok-effects.ensures
    c.in_ok-loops.ensures c.in_ok-path.ensures c.with_parts.ensures
