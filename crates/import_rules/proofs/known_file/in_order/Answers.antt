use Rattle.std.proofs.Common.{rules, ◌∙◌, subst}
use Rattle.std.specs.List.Sorted.{IsPermutation}
use Rattle.std.specs.Ordering.{is_lt}
use Rattle.std.proofs.lemmas.List.{take_all}
use Rattle.std.proofs.lemmas.List.Sorted.{answers_always, ranks_by, IsPermutation-map}
use Rattle.import_rules.specs.KnownFiles.{indicator_cmp, indicators_of}
use Rattle.import_rules.proofs.Lookup.{indicator_cmp_total}
use Rattle.import_rules.proofs.known_file.in_order.Goals as goal

pub returns-clause-sorted : goal.returns-clause-sorted
returns-clause-sorted c =
    c.in_ok-sort_by.ensures.sorted (λ a b. is_lt (indicator_cmp a.now b.now)) (ranks_by indicator_cmp_total (λ e. e.now)) (answers_always _ _ _ (λ f a r g called. search rules))

pub returns-clause-moved : goal.returns-clause-moved
returns-clause-moved c =
    subst (λ is. IsPermutation is (indicators_of c.sort_by.new.self.items)) (c.loop-indicator.invariant ∙ take_all c.loop-indicator.indicator-index c.args.indicators.now c.loop-indicator-test.false)
    (IsPermutation-map (λ i. i.now) c.loop-indicator.sorted.items c.sort_by.new.self.items c.in_ok-sort_by.ensures.permutation)
