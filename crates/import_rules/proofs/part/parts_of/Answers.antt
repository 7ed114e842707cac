use Rattle.std.proofs.Common.{◌≡◌, ◌<◌, ◌≤◌, ◌++◌, Some, length, map, get_or, ap, sym, subst, ◌∙◌, arith}
use Rattle.std.specs.Prelude.{slice_get}
use Rattle.std.proofs.lemmas.List.{get_or-map, length-map, map-append}
use Rattle.std.proofs.lemmas.Option.{slice_get-get_or}
use Rattle.module_table.specs.Defined.{see_defined}
use Rattle.module_table.specs.Facts.{Facts, see_facts}
use Rattle.import_rules.specs.Parts.{parts_to, see_part}
use Rattle.import_rules.proofs.PartsSoFar.{more_file, all_files, seen_all}
use Rattle.import_rules.proofs.part.parts_of.Goals as goal

pub overflow_cast-len : goal.overflow_cast-len
overflow_cast-len c =
    let files = c.args.files.now in
    let file = c.index-files-place.result in
    let n = c.loop-place.place in
    let within : n < length files = omega (arith, c.loop-place-test.true) in
    let inside : n < length (map see_facts files) = omega (arith, within, length-map files see_facts) in
    let is : get_or (map see_facts files) n (see_facts file) ≡ see_facts file =
    get_or-map see_facts files n file (see_facts file) within ∙ ap see_facts (sym c.index-files-place.is) in
    let small : length (see_facts file).defined ≤ 4294967295 =
    subst (λ (f : Facts). length f.defined ≤ 4294967295) is (c.requires.small n (see_facts file) inside) in
    omega (arith, small, length-map file.defined.items (see_defined file.names), c.len.ensures, file.defined.ok.0)

pub loop-place-preserved : goal.loop-place-preserved
loop-place-preserved c =
    let files = c.args.files.now in
    let n = c.loop-place.place in
    let file = c.index-files-place.result in
    let old = c.loop-place.parts.items in
    let within : n < length files = omega (arith, c.loop-place-test.true) in
    let here : slice_get files n ≡ Some file = slice_get-get_or files n file within ∙ ap (λ f. Some f) (sym c.index-files-place.is) in
    let count : c.len.result ≡ length file.defined.items = c.len.ensures ∙ file.defined.ok.0 in
    let pushed : c.push_parts.new.parts.items ≡ old ++ parts_to n c.len.result = c.in_ok-push_parts.ensures in
    more_file files n file (map (see_part files) old) (map (see_part files) c.push_parts.new.parts.items) within c.index-files-place.is c.loop-place.invariant
    (ap (map (see_part files)) (pushed ∙ ap (λ k. old ++ parts_to n k) count)
    ∙ map-append (see_part files) old (parts_to n (length file.defined.items))
    ∙ ap (λ ds. map (see_part files) old ++ ds) (seen_all files n file here))

pub returns : goal.returns
returns c = c.loop-place.invariant ∙ all_files c.args.files.now c.loop-place.place (omega (arith, c.loop-place-test.false))
