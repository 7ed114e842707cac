use Rattle.std.proofs.Common.{rules, ◌≡◌, ◌<◌, ◌∙◌, ◌∷◌, ◌++◌, [], filter, map, take, length, get_or, ap, sym, arith}
use Rattle.std.specs.Cmp.Lexicographic.{slice_cmp}
use Rattle.std.specs.Ordering.{nat_cmp}
use Rattle.std.proofs.lemmas.Cmp.{nat_list_cmp_total}
use Rattle.std.proofs.lemmas.List.{get_or-map, length-map, map-append, take_all, take_more}
use Rattle.std.proofs.lemmas.List.Sorted.{answers_always, ranks_by}
use Rattle.import_rules.specs.KnownFiles.{files_of, see_known}
use Rattle.import_rules.specs.ModuleClashes.{is_of, module_of, see_user}
use Rattle.import_rules.proofs.ModuleClashes.{sorted_same}
use Rattle.import_rules.proofs.Runs.{comes_before}
use Rattle.import_rules.proofs.module_clashes.by_module.Goals as goal

pub loop-file-preserved : goal.loop-file-preserved
loop-file-preserved c =
    let files = files_of c.args.lookups.now in
    let known = c.args.lookups.now.known.items in
    let i = c.loop-file.file-index in
    let file = see_known c.file-item.result in
    let below : i < length known = omega (arith, c.loop-file-test.true, ap length c.deref-file-items.ensures.value) in
    let within : i < length files = omega (arith, below, length-map known see_known) in
    let here : file ≡ get_or files i file =
    ap see_known (c.file-item.is ∙ ap (λ ks. get_or ks i c.file-item.result) c.deref-file-items.ensures.value) ∙ sym (get_or-map see_known known i c.file-item.result file below) in
    ap (map see_user) c.in_ok-push.ensures.items
    ∙ map-append see_user c.loop-file.users.items _
    ∙ (λ j. c.loop-file.invariant j ++ here j ∷ [])
    ∙ sym (take_more files i file within)

pub returns-clause-sorted : goal.returns-clause-sorted
returns-clause-sorted c =
    c.in_ok-sort_by.ensures.sorted (comes_before (slice_cmp nat_cmp) module_of) (ranks_by nat_list_cmp_total module_of) (answers_always _ _ _ (λ f a r g called. search rules))

pub returns-clause-same : goal.returns-clause-same
returns-clause-same c = λ own.
    let files = files_of c.args.lookups.now in
    let stable = c.sort_by.ensures.stable (comes_before (slice_cmp nat_cmp) module_of) (ranks_by nat_list_cmp_total module_of) (answers_always _ _ _ (λ f a r g called. search rules)) in
    sorted_same c.loop-file.users.items c.sort_by.new.self.items c.in_ok-sort_by.ensures.permutation stable own
    ∙ ap (filter (is_of own))
    (c.loop-file.invariant
    ∙ take_all c.loop-file.file-index files (omega (arith, c.loop-file-test.false, ap length c.deref-file-items.ensures.value, length-map c.args.lookups.now.known.items see_known)))
