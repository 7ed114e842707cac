use Rattle.std.proofs.Common.{rules, ◌∙◌, ◌++◌, [], filter, map, sym, ap}
use Rattle.std.proofs.lemmas.List.{append-nil}
use Rattle.module_table.specs.Facts.{see_facts}
use Rattle.module_table.specs.Said.{see_load}
use Rattle.import_rules.specs.Clashes.{see_item}
use Rattle.import_rules.specs.Items.{is_foreign}
use Rattle.import_rules.specs.KnownFiles.{files_of}
use Rattle.import_rules.proofs.Enough.{unlisted}
use Rattle.import_rules.proofs.gather.push_listed_items.Goals as goal

pub returns-then-ne : goal.returns-then-ne
returns-then-ne c =
    let files = files_of c.args.lookups.now in
    sym
    (ap (λ is. map see_item c.args.items.now.items ++ filter (is_foreign files) is) (unlisted files (see_facts c.args.user.now) (see_load c.args.load.now) (λ same. search rules))
    ∙ append-nil (map see_item c.args.items.now.items))
