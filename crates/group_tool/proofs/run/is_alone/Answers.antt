use Rattle.group_words.specs.Settings.{see_options}
use Rattle.group_tool.proofs.run.is_alone.Goals as goal

-- the levels are found as groups come only where there are no searches
pub returns-then-options-clause-workers : goal.returns-then-options-clause-workers
returns-then-options-clause-workers c = λ no.
    let asked = (c.settings_within.ensures c.requires.0 (see_options c.args.options.now) c.requires.1).streamed c.if-options.true in
    asked.1
