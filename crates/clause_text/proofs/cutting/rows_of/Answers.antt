use Rattle.std.proofs.Common.{Result, IfOk, ap, ◌∙◌, subst}
use Rattle.std.specs.Borrow.{Bor}
use Rattle.std.specs.List.{AllZip}
use Rattle.std.specs.declared.alloc.AllocError.{AllocError}
use Rattle.rayon.proofs.ToStd.{slice-AllZip}
use Rattle.prolog_tokens.specs.declared.rows.Span.{Span}
use Rattle.prolog_tokens.specs.declared.rows.TokenRow.{TokenRow}
use Rattle.prolog_tokens.specs.Rows.{IsRow}
use Rattle.clause_text.proofs.PieceLemmas.{all_behind, all_of_ok}
use Rattle.clause_text.proofs.cutting.rows_of.Goals as goal

pub returns : goal.returns
returns g c =
    let text = c.args.text.now in
    let slice = ap (λ it. it.base.slice.now) c.map.ensures.base ∙ (ap (λ it. it.slice.now) c.with_min_len.ensures.base ∙ c.par_iter.ensures) in
    let h = c.in_ok-collect.ensures in
    let chain = h.1 in
    let read = subst (λ f. AllZip (λ (span : Bor Span) (one : Result TokenRow AllocError). IfOk one (IsRow f.1.now)) chain.0 h.0) c.map.ensures.f chain.2 in
    all_of_ok (λ v. v.items) (IsRow text) h.0 c.in_ok-collect.field-0
    (all_behind (λ (one : Result TokenRow AllocError). IfOk one (IsRow text)) c.args.spans.now h.0
    (slice-AllZip chain.0 c.args.spans.now (chain.1 ∙ slice) (λ (span : Span) (one : Result TokenRow AllocError). IfOk one (IsRow text)) h.0 read))
    h.2
