use Rattle.std.proofs.Common.{◌≡◌, ◌<◌, ◌++◌, [], ◌∙◌, map, filter, length, get_or, take, ap, sym, arith, append_assoc}
use Rattle.std.specs.List.{flat_map}
use Rattle.std.proofs.lemmas.List.{length-map, get_or-map, take_all}
use Rattle.module_table.specs.Said.{see_load}
use Rattle.import_rules.specs.Clashes.{see_item}
use Rattle.import_rules.specs.Findings.{see_findings}
use Rattle.import_rules.specs.Flaws.{load_flaws}
use Rattle.import_rules.specs.Items.{is_foreign}
use Rattle.import_rules.specs.KnownFiles.{absent_of, files_of, see_known}
use Rattle.import_rules.specs.Offers.{kept_of_load}
use Rattle.import_rules.proofs.Lists.{given_more, kept_next}
use Rattle.import_rules.proofs.gather.push_file.Goals as goal

pub loop-load-preserved : goal.loop-load-preserved
loop-load-preserved c =
    let files = files_of c.args.lookups.now in
    let user = see_known c.args.file.now in
    let loads = c.deref-load-items.result.now in
    let i = c.loop-load.load-index in
    let load = see_load c.load-item.result in
    let before = map see_item c.args.found.now.items.items in
    let within : i < length (map see_load loads) = omega (arith, c.loop-load-test.true, length-map loads see_load) in
    let here : load ≡ get_or (map see_load loads) i load = ap see_load c.load-item.is ∙ sym (get_or-map see_load loads i c.load-item.result load c.loop-load-test.true) in (
      given_more (load_flaws files (absent_of c.args.lookups.now) user) (map see_load loads) i load _ (see_findings c.loop-load.found.flaws.items)
          (see_findings c.push_load_flaws.new.flaws.items) within here c.loop-load.invariant.0 c.in_ok-push_load_flaws.ensures,
      c.in_ok-push_listed_items.ensures
          ∙ ap (λ is. is ++ filter (is_foreign files) (kept_of_load files [] user load)) c.loop-load.invariant.1
          ∙ append_assoc before (filter (is_foreign files) (flat_map (kept_of_load files [] user) (take i (map see_load loads)))) (filter (is_foreign files) (kept_of_load files [] user load))
          ∙ ap (λ is. before ++ is) (sym (kept_next (is_foreign files) (kept_of_load files [] user) (map see_load loads) i load within here)),
    )

pub returns-clause-items : goal.returns-clause-items
returns-clause-items c =
    let files = files_of c.args.lookups.now in
    let user = see_known c.args.file.now in
    let loads = c.deref-load-items.result.now in
    c.loop-load.invariant.1
    ∙ ap (λ ls. map see_item c.args.found.now.items.items ++ filter (is_foreign files) (flat_map (kept_of_load files [] user) ls))
    (take_all c.loop-load.load-index (map see_load loads) (omega (arith, c.loop-load-test.false, length-map loads see_load)) ∙ ap (map see_load) c.deref-load-items.ensures.value)
