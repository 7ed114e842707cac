use Rattle.std.proofs.Common.{◌≡◌, ◌<◌, ◌∙◌, [], ◌∷◌, ◌++◌, map, take, length, get_or, ap, sym, arith}
use Rattle.std.proofs.lemmas.List.{get_or-map, length-map, map-append, take_all, take_more}
use Rattle.import_rules.specs.Clashes.{see_item}
use Rattle.import_rules.specs.KnownFiles.{files_of, see_known}
use Rattle.import_rules.specs.TakenModules.{module_item}
use Rattle.import_rules.proofs.taken_modules.module_items.Goals as goal

pub loop-file-preserved : goal.loop-file-preserved
loop-file-preserved c =
    let files = files_of c.args.lookups.now in
    let known = c.args.lookups.now.known.items in
    let i = c.loop-file.file-index in
    let file = see_known c.file-item.result in
    let below : i < length known = omega (arith, c.loop-file-test.true, ap length c.deref-file-items.ensures.value) in
    let within : i < length files = omega (arith, below, length-map known see_known) in
    let here : file ≡ get_or files i file =
    ap see_known (c.file-item.is ∙ ap (λ ks. get_or ks i c.file-item.result) c.deref-file-items.ensures.value) ∙ sym (get_or-map see_known known i c.file-item.result file below) in
    ap (map see_item) c.in_ok-push.ensures.items
    ∙ map-append see_item c.loop-file.items.items _
    ∙ (λ j. c.loop-file.invariant j
    ++ record {
      into = record { «module» = c.as_str.ensures j; name = []; arity = 0 };
      from_module = [];
      file = c.as_str-in-loop-file.ensures j;
      offset = 0;
    } ∷ [])
    ∙ (λ j. map module_item (take i files) ++ module_item (here j) ∷ [])
    ∙ sym (ap (map module_item) (take_more files i file within) ∙ map-append module_item (take i files) (get_or files i file ∷ []))

pub returns : goal.returns
returns c =
    let files = files_of c.args.lookups.now in
    c.loop-file.invariant
    ∙ ap (map module_item)
    (take_all c.loop-file.file-index files (omega (arith, c.loop-file-test.false, ap length c.deref-file-items.ensures.value, length-map c.args.lookups.now.known.items see_known)))
