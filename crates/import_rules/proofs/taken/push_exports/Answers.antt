use Rattle.std.proofs.Common.{◌++◌, ◌∙◌, map, filter, sym, ap, arith}
use Rattle.std.proofs.lemmas.List.{take_all}
use Rattle.module_table.specs.Facts.{see_facts}
use Rattle.import_rules.specs.Clashes.{see_item}
use Rattle.import_rules.specs.Items.{is_foreign, item}
use Rattle.import_rules.specs.KnownFiles.{files_of, shared_of}
use Rattle.import_rules.specs.Offers.{is_shared}
use Rattle.import_rules.proofs.Lists.{passed_over}
use Rattle.import_rules.proofs.taken.push_exports.Goals as goal

pub loop-export-preserved-then-not-is_shared : goal.loop-export-preserved-then-not-is_shared
loop-export-preserved-then-not-is_shared c =
    let give = item (see_facts c.args.user.now) (see_facts c.args.file.now) c.args.load.now.from in
    c.loop-export.invariant
    ∙ ap (λ is. map see_item c.args.items.now.items ++ is)
    (passed_over (is_shared (shared_of c.args.lookups.now)) give (is_foreign (files_of c.args.lookups.now)) c.deref-export-items.result.now c.loop-export.export-index
    c.export-item.result c.loop-export-test.true c.export-item.is (sym c.is_shared.ensures ∙ c.if-not-is_shared.true))

pub returns : goal.returns
returns c =
    let give = item (see_facts c.args.user.now) (see_facts c.args.file.now) c.args.load.now.from in
    c.loop-export.invariant
    ∙ ap (λ es. map see_item c.args.items.now.items ++ filter (is_foreign (files_of c.args.lookups.now)) (map give (filter (is_shared (shared_of c.args.lookups.now)) es)))
    (take_all c.loop-export.export-index c.deref-export-items.result.now (omega (arith, c.loop-export-test.false)) ∙ c.deref-export-items.ensures.value)
