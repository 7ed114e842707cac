use Rattle.std.proofs.Common.{rules, map, sym, ap, ◌∙◌, subst}
use Rattle.std.specs.List.Sorted.{IsSortedBy}
use Rattle.std.specs.Slice.Iter.{chunk_by_callee}
use Rattle.std.proofs.lemmas.Fn.{always_returns_same}
use Rattle.std.proofs.lemmas.List.Sorted.{ranks_by}
use Rattle.std.proofs.lemmas.Simd.{map-map}
use Rattle.import_rules.specs.Names.{pred_cmp}
use Rattle.import_rules.specs.Numbers.{lists_of, see_places}
use Rattle.import_rules.specs.Parts.{first_name, name_of_part, names_at}
use Rattle.import_rules.proofs.NameOrder.{pred_cmp_total}
use Rattle.import_rules.proofs.Runs.{comes_before, AreRuns, none_cut, all_cut}
use Rattle.import_rules.proofs.Chunks.{answers_on}
use Rattle.import_rules.proofs.Numbering.{alike, now_of, next_run, next_places, names_read, numbers_found}
use Rattle.import_rules.proofs.number.number.Goals as goal

pub loop-run-init : goal.loop-run-init
loop-run-init c = (none_cut pred_cmp pred_cmp_total (name_of_part c.args.files.now) c.into_iter-run-iterator.result.rest.now, ap lists_of c.in_ok-predicates.ensures.items)

pub loop-run-preserved : goal.loop-run-preserved
loop-run-preserved c =
    let steps = c.in-Some.ensures.steps in
    let files = c.args.files.now in
    let chunk = steps.2 (alike files)
    (answers_on _ (alike files) c.into_iter-run-iterator.result c.loop-run.yielded c.loop-run.run-iterator _ c.loop-run.yielded_by
    (ap (λ (x : _). chunk_by_callee x) c.into_iter-run-iterator.ensures.into_iter_gives ∙ c.chunk_by-run-items.ensures.closure)
    (always_returns_same _ _ _ (λ a r f called. search rules))) in
    let sorted = c.in_ok-sort_by.ensures.sorted (comes_before pred_cmp (name_of_part c.args.files.now)) (ranks_by pred_cmp_total (name_of_part c.args.files.now)) (always_returns_same _ _ _ (λ a r f called. search rules)) in
    let whole = ap (λ (x : _). x.rest.now) c.into_iter-run-iterator.ensures.into_iter_gives ∙ c.chunk_by-run-items.ensures.rest ∙ c.deref.ensures.value in (
      next_run c.args.files.now c.into_iter-run-iterator.result.rest.now c.loop-run.run-iterator.rest.now c.next.new.self.rest.now c.loop-run.yielded c.in-Some.run'
          (subst (IsSortedBy (comes_before pred_cmp (name_of_part c.args.files.now))) (sym whole) sorted) steps.0 steps.1 chunk.1 c.loop-run.invariant.0,
      next_places c.loop-run.yielded c.in-Some.run' (lists_of c.loop-run.predicates.items) (lists_of c.add.new.predicates.items) c.in_ok-add.ensures c.loop-run.invariant.1,
    )

pub returns : goal.returns
returns c =
    let whole = ap (λ (x : _). x.rest.now) c.into_iter-run-iterator.ensures.into_iter_gives ∙ c.chunk_by-run-items.ensures.rest ∙ c.deref.ensures.value in
    let stable = c.sort_by.ensures.stable (comes_before pred_cmp (name_of_part c.args.files.now)) (ranks_by pred_cmp_total (name_of_part c.args.files.now)) (always_returns_same _ _ _ (λ a r f called. search rules)) in
    numbers_found c.args.files.now c.args.parts.items c.sort_by.new.self.items (now_of c.loop-run.yielded) c.in_ok-sort_by.ensures.permutation
    (subst (λ parts. AreRuns pred_cmp pred_cmp_total (name_of_part c.args.files.now) parts (now_of c.loop-run.yielded)) whole
    (all_cut pred_cmp pred_cmp_total (name_of_part c.args.files.now) c.into_iter-run-iterator.result.rest.now (now_of c.loop-run.yielded) c.loop-run.run-iterator.rest.now c.in-None.ensures.steps.0 c.loop-run.invariant.0))
    stable (names_at c.args.files.now c.loop-run.predicates.items) (lists_of c.loop-run.predicates.items)
    (sym (map-map (first_name c.args.files.now) see_places c.loop-run.predicates.items)
    ∙ ap (map (first_name c.args.files.now)) c.loop-run.invariant.1
    ∙ names_read c.args.files.now (now_of c.loop-run.yielded))
    c.loop-run.invariant.1
