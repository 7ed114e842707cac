use Rattle.std.proofs.Common.{◌≡◌, ◌<◌, ◌++◌, [], ◌∙◌, map, filter, take, length, get_or, ap, sym, arith}
use Rattle.std.specs.List.{flat_map}
use Rattle.std.proofs.lemmas.List.{length-map, get_or-map, take_all}
use Rattle.module_table.specs.Facts.{Facts}
use Rattle.import_rules.specs.Clashes.{see_item}
use Rattle.import_rules.specs.Findings.{see_findings}
use Rattle.import_rules.specs.Flaws.{file_flaws}
use Rattle.import_rules.specs.Items.{is_foreign}
use Rattle.import_rules.specs.KnownFiles.{absent_of, files_of, see_known}
use Rattle.import_rules.specs.Offers.{kept_of_load}
use Rattle.import_rules.proofs.Lists.{given_more, kept_next}
use Rattle.import_rules.proofs.gather.gather.Goals as goal

pub loop-file-preserved : goal.loop-file-preserved
loop-file-preserved c =
    let files = files_of c.args.lookups.now in
    let known = c.args.lookups.now.known.items in
    let i = c.loop-file.file-index in
    let file = see_known c.file-item.result in
    let below : i < length known = omega (arith, c.loop-file-test.true, ap length c.deref-file-items.ensures.value) in
    let within : i < length files = omega (arith, below, length-map known see_known) in
    let here : file ≡ get_or files i file =
    ap see_known (c.file-item.is ∙ ap (λ ks. get_or ks i c.file-item.result) c.deref-file-items.ensures.value) ∙ sym (get_or-map see_known known i c.file-item.result file below) in (
      given_more (file_flaws files (absent_of c.args.lookups.now)) files i file [] (see_findings c.loop-file.found.flaws.items) (see_findings c.push_file.new.found.flaws.items)
          within here c.loop-file.invariant.0 c.in_ok-push_file.ensures.flaws,
      c.in_ok-push_file.ensures.items
          ∙ ap (λ is. is ++ filter (is_foreign files) (flat_map (kept_of_load files [] file) file.loads)) c.loop-file.invariant.1
          ∙ sym (kept_next (is_foreign files) (λ (user : Facts). flat_map (kept_of_load files [] user) user.loads) files i file within here),
    )

pub returns-clause-items : goal.returns-clause-items
returns-clause-items c =
    let files = files_of c.args.lookups.now in
    let known = c.args.lookups.now.known.items in
    c.loop-file.invariant.1
    ∙ ap (λ fs. filter (is_foreign files) (flat_map (λ (user : Facts). flat_map (kept_of_load files [] user) user.loads) fs))
    (take_all c.loop-file.file-index files (omega (arith, c.loop-file-test.false, ap length c.deref-file-items.ensures.value, length-map known see_known)))
