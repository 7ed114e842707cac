use Rattle.std.proofs.Common.{rules, ◌≡◌, [], map, flat_map, sym, ◌∙◌, subst}
use Rattle.std.proofs.lemmas.Iterator.Adapters.{YieldsList-from_vec}
use Rattle.std.proofs.lemmas.Iterator.Consumers.{YieldsList-end, YieldsList-turn, YieldsList-so_far}
use Rattle.std.proofs.lemmas.List.{map-id}
use Rattle.std.proofs.lemmas.Fn.{always_returns_same}
use Rattle.std.proofs.lemmas.List.Sorted.{IsPermutation-trans}
use Rattle.module_table.specs.Defined.{AreDefined, comes_before, see_defined, see_run}
use Rattle.module_table.proofs.Grouping.{none_defined}
use Rattle.module_table.proofs.SortedRuns.{comes_before_ranks, none_after_next, from_sorted, runs_apart}
use Rattle.module_table.proofs.RunLemmas.{all_then}
use Rattle.module_table.proofs.defined.group.Goals as goal

pub returns-then-are_apart : goal.returns-then-are_apart
returns-then-are_apart c =
    runs_apart c.args.names.now c.args.runs.items c.sort_by_lead.new.runs.items c.sort_by_lead.ensures.moved c.sort_by_lead.ensures.stable
    (rw (sym c.deref.ensures.value) c.if-are_apart.ensures)

pub returns-then-are_apart-2 : goal.returns-then-are_apart-2
returns-then-are_apart-2 c =
    let names = c.args.names.now in
    let stable = c.sort_by.ensures.stable (comes_before names) (comes_before_ranks names) (always_returns_same _ _ _ (λ a r f called. search rules)) in
    runs_apart names c.args.runs.items c.sort_by.new.self.items
    (IsPermutation-trans c.args.runs.items c.sort_by_lead.new.runs.items c.sort_by.new.self.items c.sort_by_lead.ensures.moved c.sort_by.ensures.permutation)
    (λ x. stable x ∙ c.sort_by_lead.ensures.stable x) (rw (sym c.deref-2.ensures.value) c.if-are_apart-2.ensures)

pub loop-run-init : goal.loop-run-init
loop-run-init c = subst (λ xs. AreDefined [] (map (see_defined c.args.names.now) xs)) (sym c.in_ok-defined.ensures.items) none_defined

pub loop-run-preserved : goal.loop-run-preserved
loop-run-preserved c =
    let names = c.args.names.now in
    let done = c.loop-run.yielded in
    let run = c.in-Some.run' in
    let gives = c.into_iter-run-iterator.ensures.into_iter_gives in
    let road = YieldsList-from_vec {s = c.into_iter-run-iterator.result} c.sort_by.new.self.items gives.0 (gives.1 ∙ c.sort_by.new.self.ok.0) in
    let turn = YieldsList-turn road done c.loop-run.run-iterator c.loop-run.yielded_by c.next.result c.next.new.self run c.in-Some.is c.next.ensures.steps in
    let up =
    c.in_ok-sort_by.ensures.sorted (comes_before names) (comes_before_ranks names) (always_returns_same _ _ _ (λ a r f called. search rules)) in
    subst (λ ds. AreDefined ds (map (see_defined names) c.add.new.defined.items)) (sym (all_then names done run))
    (c.in_ok-add.ensures (flat_map (see_run names) done)
    (none_after_next names c.sort_by.new.self.items done run up
    (sym (map-id done) ∙ YieldsList-so_far road done c.loop-run.run-iterator c.loop-run.yielded_by) turn.0 turn.1)
    c.loop-run.invariant)

pub returns : goal.returns
returns c =
    let names = c.args.names.now in
    let done = c.loop-run.yielded in
    let gives = c.into_iter-run-iterator.ensures.into_iter_gives in
    let road = YieldsList-from_vec {s = c.into_iter-run-iterator.result} c.sort_by.new.self.items gives.0 (gives.1 ∙ c.sort_by.new.self.ok.0) in
    let all : done ≡ c.sort_by.new.self.items =
    sym (map-id done) ∙ (YieldsList-end road done c.loop-run.run-iterator c.loop-run.yielded_by c.next.result c.next.new.self c.in-None.is c.next.ensures.steps).0 in
    let stable = c.sort_by.ensures.stable (comes_before names) (comes_before_ranks names) (always_returns_same _ _ _ (λ a r f called. search rules)) in
    from_sorted names c.args.runs.items c.sort_by.new.self.items (map (see_defined names) c.loop-run.defined.items)
    (IsPermutation-trans c.args.runs.items c.sort_by_lead.new.runs.items c.sort_by.new.self.items c.sort_by_lead.ensures.moved c.sort_by.ensures.permutation)
    (λ x. stable x ∙ c.sort_by_lead.ensures.stable x)
    (subst (λ runs. AreDefined (flat_map (see_run names) runs) (map (see_defined names) c.loop-run.defined.items)) all c.loop-run.invariant)
