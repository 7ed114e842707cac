use Rattle.std.proofs.Common.{◌≡◌, ◌∷◌, ◌++◌, ◌∙◌, [], ap, sym}
use Rattle.import_rules.proofs.Marks.{list_anew, list_at, list_other}
use Rattle.import_rules.proofs.shared_names.push_at.Goals as goal

pub returns-clause-here : goal.returns-clause-here
returns-clause-here c =
    list_anew c.args.lists.now c.args.at c.push.new.list c.requires
    ∙ c.in_ok-push.ensures
    ∙ ap (λ es. es ++ c.args.exporter ∷ []) (sym (list_at c.args.lists.now c.args.at c.index-lists-at.result c.requires))

pub returns-clause-others : goal.returns-clause-others
returns-clause-others c = λ n other. list_other c.args.lists.now c.args.at n c.push.new.list other
