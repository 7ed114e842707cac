use Rattle.std.proofs.Common.{◌≡◌, String, Global, Result, IfOk, ap, ◌∙◌, subst}
use Rattle.std.specs.Borrow.{Bor}
use Rattle.std.specs.List.{AllZip}
use Rattle.std.specs.String.{string_bytes}
use Rattle.std.specs.declared.alloc.AllocError.{AllocError}
use Rattle.rayon.proofs.ToStd.{slice-AllZip}
use Rattle.call_table.specs.declared.clause_at.ClauseAt.{ClauseAt}
use Rattle.call_table.specs.declared.extents.Extent.{Extent}
use Rattle.call_told.specs.Stretches.{clause_stretch}
use Rattle.call_told.specs.declared.stretches.Stretch.{Stretch}
use Rattle.call_told.proofs.StretchLemmas.{texts_found}
use Rattle.call_told.proofs.stretches.clause_pieces.Goals as goal

pub returns : goal.returns
returns g c =
    let stretches = c.args.stretches.now in
    let slice = ap (λ it. it.base.slice.now) c.map.ensures.base ∙ (ap (λ it. it.slice.now) c.with_min_len.ensures.base ∙ c.par_iter.ensures) in
    let h = c.in_ok-collect.ensures in
    let chain = h.1 in
    let made =
    subst
    (λ f. AllZip (λ (s : Bor (Stretch ClauseAt Extent)) (one : Result (String Global) AllocError). IfOk one (λ text. string_bytes text ≡ clause_stretch (f.1.now) s.now)) chain.0 h.0)
    c.map.ensures.f chain.2 in
    texts_found (λ v. v.items) (clause_stretch c.args.program.now) stretches h.0 _
    (slice-AllZip chain.0 stretches (chain.1 ∙ slice)
    (λ (s : Stretch ClauseAt Extent) (one : Result (String Global) AllocError). IfOk one (λ text. string_bytes text ≡ clause_stretch c.args.program.now s)) h.0 made)
    h.2
