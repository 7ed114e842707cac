use Rattle.std.proofs.Common.{◌≡◌, ℕ, ◌<◌, List, All, Vec, Global, Result, IfOk, length, ap, sym, ◌∙◌, subst, arith}
use Rattle.std.specs.Prelude.{map, max}
use Rattle.std.specs.Borrow.{Bor}
use Rattle.std.specs.List.{AllZip}
use Rattle.std.specs.declared.alloc.AllocError.{AllocError}
use Rattle.rayon.specs.Lists.{chunks_of, chunks_size, chunks_slice, min_len_base}
use Rattle.rayon.proofs.ToStd.{slice-AllZip, chunks_of-concat}
use Rattle.call_edges.specs.FileOrder.{AreStarts}
use Rattle.call_edges.specs.declared.starts.Start.{Start}
use Rattle.call_edges.proofs.FileOrderLemmas.{starts_found}
use Rattle.call_edges.proofs.SpreadLemmas.{all_in_parts}
use Rattle.call_edges.proofs.starts.starts_of_each.Goals as goal

pub returns : goal.returns
returns g c =
    let seen = c.args.program.now in
    let nodes = c.args.nodes.now in
    let h = c.in_ok-collect.ensures in
    let chain = h.1 in
    let shown : map (λ z. z.now) chain.0 ≡ chunks_of 1024 nodes =
    chain.1
    ∙ (ap (λ it. chunks_of (max (chunks_size (min_len_base it)) 1) (chunks_slice (min_len_base it))) c.map.ensures.base
    ∙ (ap (λ it. chunks_of (max (chunks_size it) 1) (chunks_slice it)) c.with_min_len.ensures.base
    ∙ (λ i. chunks_of (max (c.par_chunks.ensures.size i) 1) (c.par_chunks.ensures.slice i)))) in
    let R : List ℕ → Result (Vec Start Global) AllocError → Type 0 = λ part one. IfOk one (λ starts. AreStarts seen part starts.items) in
    let made = subst (λ f. AllZip (λ (part : Bor (List ℕ)) (one : Result (Vec Start Global) AllocError). IfOk one (λ starts. AreStarts (f.1.now) part.now starts.items)) chain.0 h.0) c.map.ensures.f chain.2 in
    starts_found seen (λ v. v.items) (chunks_of 1024 nodes) nodes h.0 c.in_ok-collect.field-0 (chunks_of-concat 1024 nodes (omega arith))
    (slice-AllZip chain.0 (chunks_of 1024 nodes) shown R h.0 made) h.2

pub collect-requires-clause-ready : goal.collect-requires-clause-ready
collect-requires-clause-ready g c κs within =
    let nodes = c.args.nodes.now in
    let Below : ℕ → Type 0 = λ p. p < length c.args.program.now.predicates in
    let all = all_in_parts Below (chunks_of 1024 nodes) nodes (chunks_of-concat 1024 nodes (omega arith)) c.requires in
    rw (c.map.ensures.base, c.map.ensures.f, c.with_min_len.ensures.base, c.par_chunks.ensures.slice, c.par_chunks.ensures.size)
    (λ k d lt x is. (subst (All Below) (sym is) (all k d lt), λ y p. tt))
