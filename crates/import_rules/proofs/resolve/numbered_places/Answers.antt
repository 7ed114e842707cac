use Rattle.std.proofs.Common.{◌≤◌, List, All, length, map, ap, subst, sym, arith}
use Rattle.std.proofs.lemmas.List.{length-map}
use Rattle.std.proofs.lemmas.List.Elements.{All-weaker}
use Rattle.prolog_tokens.specs.declared.limits.TheConstants.{MOST_BYTES}
use Rattle.module_table.specs.declared.file_facts.FileFacts.{FileFacts}
use Rattle.module_table.specs.Facts.{Facts, see_facts}
use Rattle.file_library.specs.SortedOut.{see_loaded}
use Rattle.import_rules.proofs.Loaded.{few_files, few_in_each}
use Rattle.import_rules.proofs.resolve.numbered_places.Goals as goal

pub parts_of-requires-clause-few : goal.parts_of-requires-clause-few
parts_of-requires-clause-few c =
    let loaded = c.args.loaded.now in
    omega (arith, few_files (see_loaded loaded) c.requires, length-map loaded.files.items see_facts, ap length c.deref.ensures.value)

pub parts_of-requires-clause-small : goal.parts_of-requires-clause-small
parts_of-requires-clause-small c =
    let loaded = see_loaded c.args.loaded.now in
    let small : All (λ (f : Facts). length f.defined ≤ MOST_BYTES) loaded.files = few_in_each loaded c.requires in
    subst (λ (files : List FileFacts). All (λ (f : Facts). length f.defined ≤ 4294967295) (map see_facts files)) (sym c.deref.ensures.value)
    (All-weaker (λ (f : Facts). length f.defined ≤ MOST_BYTES) (λ (f : Facts). length f.defined ≤ 4294967295) (λ f le. omega (arith, le)) loaded.files small)
