use Rattle.std.proofs.Common.{Some, Vec, Global, option_map, sym, ap, ◌∙◌}
use Rattle.import_rules.specs.declared.names.PredName.{PredName}
use Rattle.group_words.specs.Settings.{see_options}
use Rattle.tool_run.proofs.RootLemmas.{rooted_by}
use Rattle.tool_run.proofs.roots.roots_by.Goals as goal

pub returns-in-Some-clause-rooted : goal.returns-in-Some-clause-rooted
returns-in-Some-clause-rooted c =
    rooted_by c.listed_roots.result (see_options c.args.options.now).roots c.deref.result.now c.args.program.now
    (ap (option_map (λ (names : Vec PredName Global). names.items)) c.in-Some.is ∙ ap Some (sym c.deref.ensures.value)) c.listed_roots.ensures.rooted
