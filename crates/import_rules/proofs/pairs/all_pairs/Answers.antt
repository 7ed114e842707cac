use Rattle.std.proofs.Common.{◌≡◌, ◌<◌, [], ◌∙◌, map, flat_map, length, get_or, ap, sym, arith}
use Rattle.std.proofs.lemmas.List.{length-map, get_or-map}
use Rattle.module_table.specs.Facts.{Facts}
use Rattle.import_rules.specs.Clashes.{see_item}
use Rattle.import_rules.specs.KnownFiles.{files_of, see_known}
use Rattle.import_rules.specs.Offers.{pairs_of_load}
use Rattle.import_rules.proofs.Lists.{given_more}
use Rattle.import_rules.proofs.pairs.all_pairs.Goals as goal

pub loop-file-preserved : goal.loop-file-preserved
loop-file-preserved c =
    let files = files_of c.args.lookups.now in
    let known = c.args.lookups.now.known.items in
    let i = c.loop-file.file-index in
    let file = see_known c.file-item.result in
    let below : i < length known = omega (arith, c.loop-file-test.true, ap length c.deref-file-items.ensures.value) in
    let within : i < length files = omega (arith, below, length-map known see_known) in
    let here : file ≡ get_or files i file =
    ap see_known (c.file-item.is ∙ ap (λ ks. get_or ks i c.file-item.result) c.deref-file-items.ensures.value) ∙ sym (get_or-map see_known known i c.file-item.result file below) in
    given_more (λ (user : Facts). flat_map (pairs_of_load files user) user.loads) files i file [] (map see_item c.loop-file.items.items)
    (map see_item c.push_pairs.new.items.items) within here c.loop-file.invariant c.in_ok-push_pairs.ensures
