use Rattle.std.proofs.Common.{◌≡◌, ℕ, ◌-◌, ◌<◌, List, Result, length, IfOk, ap, ◌∙◌, subst, arith}
use Rattle.std.specs.List.{AllZip, range_with_len}
use Rattle.std.specs.declared.alloc.AllocError.{AllocError}
use Rattle.rayon.specs.Numbers.{nat_range}
use Rattle.rayon.proofs.ToStd.{nat_range-All}
use Rattle.group_tool.proofs.KindLemmas.{each_found}
use Rattle.group_tool.specs.Parts.{IsOwnKinds}
use Rattle.group_tool.proofs.own_kinds.own_kinds.Goals as goal

pub returns : goal.returns
returns g c =
    let ends = c.into_par_iter.ensures in
    let seen = c.args.program.now in
    let count = c.count.result in
    let whole : count - 0 ≡ count = omega arith in
    let h = c.in_ok-collect.ensures in
    let chain = h.1 in
    let places : chain.0 ≡ range_with_len 0 count =
    chain.1
    ∙ ((λ i. nat_range (c.map.ensures.base i).base.start (c.map.ensures.base i).base.end)
    ∙ ((λ i. nat_range (c.with_min_len.ensures.base i).start (c.with_min_len.ensures.base i).end)
    ∙ ((λ i. nat_range (ends.0 i) (ends.1 i)) ∙ ap (range_with_len 0) whole))) in
    let made =
    subst (λ f. AllZip (λ (node : ℕ) (one : Result ℕ AllocError). IfOk one (IsOwnKinds (f.1.now) node)) chain.0 h.0) c.map.ensures.f chain.2 in
    each_found (λ own. own.items) seen count h.0 c.in_ok-collect.field-0 c.count.ensures
    (subst (λ (xs : List ℕ). AllZip (λ node one. IfOk one (IsOwnKinds seen node)) xs h.0) places made) h.2

pub collect-requires-clause-ready : goal.collect-requires-clause-ready
collect-requires-clause-ready g c κs within =
    let ends = c.into_par_iter.ensures in
    let seen = c.args.program.now in
    let inside = nat_range-All (λ i. i < length seen.predicates) 0 c.count.result (λ i low high. omega (arith, high, c.count.ensures)) in
    rw (c.map.ensures.base, c.map.ensures.f, c.with_min_len.ensures.base, ends.0, ends.1) (λ k d lt. (inside k d lt, λ y p. tt))
