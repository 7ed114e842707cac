-- The files in order of name are loaded, or have faults.
use Rattle.std.proofs.Common.{◌≡◌, ◌≤◌, [], List, ℕ, Vec, Global, length, map, ap, sym, subst, arith}
use Rattle.std.proofs.lemmas.List.{nil_from_length, length-map}
use Rattle.std.proofs.lemmas.List.Sorted.{All-permutation, IsPermutation-map}
use Rattle.file_library.specs.declared.limits.TheConstants.{MOST_FILES}
use Rattle.prolog_tokens.specs.declared.limits.TheConstants.{MOST_BYTES}
use Rattle.module_table.specs.Facts.{see_facts}
use Rattle.file_library.specs.Answers.{bytes_of}
use Rattle.file_library.specs.AskedFile.{see_file, answered_of, IsOfText}
use Rattle.file_library.specs.AskAll.{answers_of}
use Rattle.file_library.specs.Loaded.{IsLoaded}
use Rattle.file_library.proofs.LoadedFiles.{all_loaded}
use Rattle.file_library.proofs.LoadFaults.{all_faults}
use Rattle.file_library.proofs.Finished.{roots_set}
use Rattle.file_library.proofs.loading.finish.Goals as goal

pub sorted_out-requires-clause-texts : goal.sorted_out-requires-clause-texts
sorted_out-requires-clause-texts c =
    All-permutation IsOfText (map see_file c.args.files.items) (map see_file c.in_ok-files.files.items) c.in_ok-files.ensures.moved c.requires.texts

pub sorted_out-requires-clause-small : goal.sorted_out-requires-clause-small
sorted_out-requires-clause-small c =
    let found = map see_file c.args.files.items in
    let sorted = map see_file c.in_ok-files.files.items in
    All-permutation (λ answer. bytes_of answer ≤ MOST_BYTES) (answers_of found) (answers_of sorted) (IsPermutation-map answered_of found sorted c.in_ok-files.ensures.moved) c.requires.small

pub returns-then-len-gt0 : goal.returns-then-len-gt0
returns-then-len-gt0 c seen agrees asked =
    let set = c.in_ok-set.set in
    let fits : length set.keys ≤ 18446744073709551615 =
    omega (arith, c.in_ok-names.names.ok.0, c.in_ok-names.names.ok.1, c.in_ok-names.names.small, ap (λ names. length names) c.in_ok-names.ensures.same) in (
      all_faults seen c.args.roots.now (map see_file c.args.files.items) (map see_file c.in_ok-files.files.items) set c.in_ok-files-2.field-0 agrees asked c.requires.texts c.in_ok-files.ensures
          (roots_set c.args.roots.now set 18446744073709551615 c.in_ok-set.ensures c.in_ok-names.ensures.ordered fits) c.in_ok-files-2.ensures,
      λ none. let count : length c.in_ok-files-2.field-0.faults.items ≡ 0 = ap (λ list. length list) none in omega (arith, count, c.len.ensures, c.if-len-gt0.true),
    )

pub returns : goal.returns
returns c seen agrees asked =
    let set = c.in_ok-set.set in
    let out = c.in_ok-files-2.field-0 in
    let fits : length set.keys ≤ 18446744073709551615 =
    omega (arith, c.in_ok-names.names.ok.0, c.in_ok-names.names.ok.1, c.in_ok-names.names.small, ap (λ names. length names) c.in_ok-names.ensures.same) in
    let few : length (map see_file c.args.files.items) ≤ MOST_FILES = omega (arith, c.requires.few, length-map c.args.files.items see_file) in
    let none : out.faults.items ≡ [] = nil_from_length out.faults.items (omega (arith, c.len.ensures, c.if-len-gt0.false)) in
    subst (λ names. IsLoaded seen c.args.roots.now (record { files = map see_facts out.files.items; absent = out.absent.items; roots = names; texts = map (λ (text : List ℕ × Vec ℕ Global). (text.0, text.1.items)) out.texts.items }))
    (sym c.in_ok-names.ensures.same)
    (all_loaded seen c.args.roots.now (map see_file c.args.files.items) (map see_file c.in_ok-files.files.items) set out agrees asked c.requires.texts few c.requires.small c.requires.together
    c.in_ok-files.ensures (roots_set c.args.roots.now set 18446744073709551615 c.in_ok-set.ensures c.in_ok-names.ensures.ordered fits) c.in_ok-files-2.ensures none)
