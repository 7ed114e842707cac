use Rattle.std.proofs.Common.{◌≡◌, ◌<◌, List, length, map, get_or, ap, sym, ◌∙◌, subst, arith}
use Rattle.std.proofs.lemmas.List.{get_or-map, length-map}
use Rattle.module_table.specs.Facts.{see_facts}
use Rattle.import_rules.specs.Metas.{MetaAt, AreDeclared, HasFewMetas}
use Rattle.import_rules.proofs.MetasSoFar.{files_below, more_file, all_files}
use Rattle.import_rules.proofs.meta_places.meta_places.Goals as goal

pub keep_file-requires-clause-few : goal.keep_file-requires-clause-few
keep_file-requires-clause-few c =
    let files = c.args.files.now in
    let k = c.loop-place.place in
    let file = see_facts c.index-files-place.result in
    let within : k < length files = omega (arith, c.loop-place-test.true) in
    let read : get_or (map see_facts files) k file ≡ file = get_or-map see_facts files k c.index-files-place.result file within ∙ ap see_facts (sym c.index-files-place.is) in
    subst HasFewMetas read (c.requires.small k file (omega (arith, within, length-map files see_facts)))

pub loop-place-preserved : goal.loop-place-preserved
loop-place-preserved c =
    let files = c.args.files.now in
    let k = c.loop-place.place in
    let within : k < length files = omega (arith, c.loop-place-test.true) in
    let P : List MetaAt → Type 0 = λ metas. AreDeclared metas c.args.predicates.now c.keep_file.new.kept.items in
    subst P (sym (more_file files k c.index-files-place.result within c.index-files-place.is))
    (c.in_ok-keep_file.ensures (files_below (map see_facts files) k) c.loop-place.invariant)

pub returns : goal.returns
returns c =
    let P : List MetaAt → Type 0 = λ metas. AreDeclared metas c.args.predicates.now c.loop-place.kept.items in
    subst P (all_files c.args.files.now c.loop-place.place (omega (arith, c.loop-place-test.false))) c.loop-place.invariant

pub keep_file-requires-clause-long : goal.keep_file-requires-clause-long
keep_file-requires-clause-long c = c.loop-place.invariant.as_many
