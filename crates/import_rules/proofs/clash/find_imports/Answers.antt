use Rattle.std.proofs.Common.{rules, map, sym, ap, ◌∙◌, subst}
use Rattle.std.specs.List.Sorted.{IsSortedBy}
use Rattle.std.proofs.lemmas.List.Sorted.{answers_always, ranks_by}
use Rattle.import_rules.specs.Clashes.{see_item}
use Rattle.import_rules.specs.Names.{pred_cmp}
use Rattle.import_rules.proofs.NameOrder.{pred_cmp_total}
use Rattle.import_rules.proofs.Runs.{comes_before, AreRuns, none_cut, all_cut}
use Rattle.import_rules.proofs.ImportedNames.{into, alike, now_of, next_run, next_first, next_clash, clashes_found, firsts_found}
use Rattle.import_rules.proofs.clash.find_imports.Goals as goal

pub loop-run-init : goal.loop-run-init
loop-run-init c = (none_cut pred_cmp pred_cmp_total into c.into_iter-run-iterator.result.rest.now, ap (map see_item) c.new.ensures.items, ap (map see_item) c.new-2.ensures.items)

pub loop-run-preserved : goal.loop-run-preserved
loop-run-preserved c =
    let steps = c.in-Some.ensures.steps in
    let chunk = steps.2 alike (answers_always _ _ _ (λ f a r g called. search rules)) in
    let sorted = c.in_ok-sort_by.ensures.sorted (comes_before pred_cmp into) (ranks_by pred_cmp_total into) (answers_always _ _ _ (λ f a r g called. search rules)) in
    let whole = ap (λ (x : _). x.rest.now) c.into_iter-run-iterator.ensures.into_iter_gives ∙ c.chunk_by-run-items.ensures.rest ∙ c.deref.ensures.value in (
      next_run c.into_iter-run-iterator.result.rest.now c.loop-run.run-iterator.rest.now c.next.new.self.rest.now c.loop-run.yielded c.in-Some.run'
          (subst (IsSortedBy (comes_before pred_cmp into)) (sym whole) sorted) steps.0 steps.1 chunk.1 c.loop-run.invariant.0,
      next_first c.loop-run.yielded c.in-Some.run' (map see_item c.loop-run.found.firsts.items) (map see_item c.add.new.found.firsts.items) c.in_ok-add.ensures.firsts c.loop-run.invariant.1,
      next_clash c.loop-run.yielded c.in-Some.run' (map see_item c.loop-run.found.clashes.items) (map see_item c.add.new.found.clashes.items) c.in_ok-add.ensures.clashes c.loop-run.invariant.2,
    )

pub returns-clause-firsts : goal.returns-clause-firsts
returns-clause-firsts c =
    let whole = ap (λ (x : _). x.rest.now) c.into_iter-run-iterator.ensures.into_iter_gives ∙ c.chunk_by-run-items.ensures.rest ∙ c.deref.ensures.value in
    firsts_found c.args.items.items c.sort_by.new.self.items (now_of c.loop-run.yielded) c.in_ok-sort_by.ensures.permutation
    (subst (λ items. AreRuns pred_cmp pred_cmp_total into items (now_of c.loop-run.yielded)) whole
    (all_cut pred_cmp pred_cmp_total into c.into_iter-run-iterator.result.rest.now (now_of c.loop-run.yielded) c.loop-run.run-iterator.rest.now c.in-None.ensures.steps.0 c.loop-run.invariant.0))
    (map see_item c.loop-run.found.firsts.items) c.loop-run.invariant.1

pub returns-clause-clashes : goal.returns-clause-clashes
returns-clause-clashes c =
    let whole = ap (λ (x : _). x.rest.now) c.into_iter-run-iterator.ensures.into_iter_gives ∙ c.chunk_by-run-items.ensures.rest ∙ c.deref.ensures.value in
    let stable = c.sort_by.ensures.stable (comes_before pred_cmp into) (ranks_by pred_cmp_total into) (answers_always _ _ _ (λ f a r g called. search rules)) in
    clashes_found c.args.items.items c.sort_by.new.self.items (now_of c.loop-run.yielded) c.in_ok-sort_by.ensures.permutation
    (subst (λ items. AreRuns pred_cmp pred_cmp_total into items (now_of c.loop-run.yielded)) whole
    (all_cut pred_cmp pred_cmp_total into c.into_iter-run-iterator.result.rest.now (now_of c.loop-run.yielded) c.loop-run.run-iterator.rest.now c.in-None.ensures.steps.0 c.loop-run.invariant.0))
    stable (map see_item c.loop-run.found.clashes.items) c.loop-run.invariant.2
