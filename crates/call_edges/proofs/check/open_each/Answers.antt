use Rattle.std.proofs.Common.{◌≡◌, ℕ, ◌*◌, ◌<◌, ◌-◌, ◌↔◌, ◌∙◌, List, Result, length, ap, sym, subst, arith, IfOk}
use Rattle.std.specs.List.{AllZip, range_with_len}
use Rattle.std.specs.declared.alloc.AllocError.{AllocError}
use Rattle.rayon.specs.Lists.{min_len_base, range_start, range_end}
use Rattle.rayon.specs.Numbers.{nat_range}
use Rattle.rayon.proofs.ListFacts.{IfOk-then}
use Rattle.rayon.proofs.ToStd.{nat_range-All}
use Rattle.import_rules.specs.Program.{Seen}
use Rattle.call_edges.specs.declared.piece.OpenedPiece.{OpenedPiece}
use Rattle.call_edges.specs.OpenedPieces.{AreOpened, IsOpenedPiece}
use Rattle.call_edges.proofs.CheckLemmas.{opened_of}
use Rattle.call_edges.proofs.check.open_each.Goals as goal

-- so many pieces that each predicate is in one
so_many : (seen : Seen) (count pieces : ℕ) → count ≡ length seen.predicates → ((number : ℕ) → number < pieces ↔ number * 512 < count)
    → (number : ℕ) → number < pieces ↔ number * 512 < length seen.predicates
so_many seen count pieces is are = subst (λ (n : ℕ). (number : ℕ) → number < pieces ↔ number * 512 < n) is are

pub returns : goal.returns
returns g c =
    let ends = c.into_par_iter.ensures in
    let seen = c.args.program.now in
    let keep = c.args.keep in
    let pieces = c.piece_count.result in
    let whole : pieces - 0 ≡ pieces = omega arith in
    IfOk-then c.collect.result _ _ c.collect.ensures (λ v h.
    let chain = h.1 in
    let places =
    chain.1
    ∙ (ap (λ it. nat_range (range_start (min_len_base it)) (range_end (min_len_base it))) c.map.ensures.base
    ∙ (ap (λ it. nat_range (range_start it) (range_end it)) c.with_min_len.ensures.base
    ∙ ((λ i. nat_range (ends.0 i) (ends.1 i)) ∙ ap (range_with_len 0) whole))) in
    let Found : ℕ → Result OpenedPiece AllocError → Type 0 = λ number one. IfOk one (IsOpenedPiece keep seen number) in
    let made : AllZip Found chain.0 h.0 =
    subst (λ f. AllZip (λ (number : ℕ) (one : Result OpenedPiece AllocError). IfOk one (IsOpenedPiece f.2.now (f.1.now) number)) chain.0 h.0) c.map.ensures.f chain.2 in
    subst (λ (xs : List (Result OpenedPiece AllocError)). AreOpened keep seen xs) (sym h.2)
    (opened_of keep seen h.0 pieces (so_many seen c.count.result pieces c.count.ensures c.piece_count.ensures)
    (subst (λ (xs : List ℕ). AllZip Found xs h.0) places made)))

pub collect-requires-clause-ready : goal.collect-requires-clause-ready
collect-requires-clause-ready g c κs within =
    let ends = c.into_par_iter.ensures in
    let seen = c.args.program.now in
    let pieces = c.piece_count.result in
    let inside = nat_range-All (λ i. i * 512 < length seen.predicates) 0 pieces (λ i low high. (so_many seen c.count.result pieces c.count.ensures c.piece_count.ensures i).0 high) in
    rw (c.map.ensures.base, c.map.ensures.f, c.with_min_len.ensures.base, ends.0, ends.1) (λ k d lt. (inside k d lt, λ y p. tt))
