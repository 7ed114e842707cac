use Rattle.std.proofs.Common.{◌≡◌, ◌<◌, ◌∙◌, map, length, get_or, ap, sym, arith}
use Rattle.std.proofs.lemmas.List.{length-map, get_or-map}
use Rattle.module_table.specs.Facts.{see_facts}
use Rattle.module_table.specs.Said.{see_load}
use Rattle.import_rules.specs.Clashes.{see_item}
use Rattle.import_rules.specs.KnownFiles.{files_of}
use Rattle.import_rules.specs.Offers.{pairs_of_load}
use Rattle.import_rules.proofs.Lists.{given_more}
use Rattle.import_rules.proofs.pairs.push_pairs.Goals as goal

pub loop-load-preserved : goal.loop-load-preserved
loop-load-preserved c =
    let files = files_of c.args.lookups.now in
    let user = see_facts c.args.user.now in
    let loads = c.deref-load-items.result.now in
    let i = c.loop-load.load-index in
    let load = see_load c.load-item.result in
    let within : i < length (map see_load loads) = omega (arith, c.loop-load-test.true, length-map loads see_load) in
    let here : load ≡ get_or (map see_load loads) i load = ap see_load c.load-item.is ∙ sym (get_or-map see_load loads i c.load-item.result load c.loop-load-test.true) in
    given_more (pairs_of_load files user) (map see_load loads) i load (map see_item c.args.items.now.items) (map see_item c.loop-load.items.items)
    (map see_item c.push_pair.new.items.items) within here c.loop-load.invariant c.in_ok-push_pair.ensures
