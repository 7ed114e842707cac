use Rattle.std.proofs.Common.{◌≡◌, ◌<◌, ℕ, List, All, Vec, Global, Result, IfOk, length, ap, ◌∙◌, subst, sym, arith}
use Rattle.std.specs.Prelude.{map, max}
use Rattle.std.specs.Borrow.{Bor}
use Rattle.std.specs.List.{AllZip, flat_map}
use Rattle.std.specs.declared.alloc.AllocError.{AllocError}
use Rattle.rayon.specs.Lists.{chunks_of, chunks_size, chunks_slice, min_len_base}
use Rattle.rayon.proofs.ToStd.{slice-AllZip, chunks_of-concat}
use Rattle.graph_law.specs.Graph.{lists_of}
use Rattle.loop_report.specs.Report.{place_line}
use Rattle.loop_report.specs.Texts.{concatenated}
use Rattle.loop_report.proofs.Pieces.{all_in_parts, parts_lines, texts_found}
use Rattle.loop_report.proofs.group_texts.group_pieces.Goals as goal

pub returns : goal.returns
returns g c =
    let order = c.args.order.now in
    let parts = chunks_of 2048 order in
    let line : ℕ → List ℕ = place_line c.args.program.now.predicates (lists_of c.args.groups.now) c.args.levels.now in
    let h = c.in_ok-collect.ensures in
    let chain = h.1 in
    let shown : map (λ z. z.now) chain.0 ≡ parts =
    chain.1
    ∙ (ap (λ it. chunks_of (max (chunks_size (min_len_base it)) 1) (chunks_slice (min_len_base it))) c.map.ensures.base
    ∙ (ap (λ it. chunks_of (max (chunks_size it) 1) (chunks_slice it)) c.with_min_len.ensures.base
    ∙ (λ i. chunks_of (max (c.par_chunks.ensures.size i) 1) (c.par_chunks.ensures.slice i)))) in
    let made =
    subst
    (λ f. AllZip (λ (part : Bor (List ℕ)) (one : Result (Vec ℕ Global) AllocError). IfOk one
    (λ text. text.items ≡ flat_map (place_line f.1.now.predicates (lists_of f.2.now) f.3.now) part.now)) chain.0 h.0)
    c.map.ensures.f chain.2 in
    let whole = parts_lines line parts ∙ ap (flat_map line) (chunks_of-concat 2048 order (omega arith)) in
    subst (λ bytes. IfOk c.in_ok-collect.field-0 (λ v. concatenated v.items ≡ bytes)) whole
    (texts_found (λ v. v.items) (flat_map line) parts h.0 c.in_ok-collect.field-0
    (slice-AllZip chain.0 parts shown (λ (part : List ℕ) (one : Result (Vec ℕ Global) AllocError). IfOk one (λ text. text.items ≡ flat_map line part)) h.0 made)
    h.2)

pub collect-requires-clause-ready : goal.collect-requires-clause-ready
collect-requires-clause-ready g c κs within =
    let order = c.args.order.now in
    let Below : List ℕ → Type 0 = All (λ place. place < length c.args.groups.now) in
    let all = all_in_parts (λ place. place < length c.args.groups.now) (chunks_of 2048 order)
    (subst Below (sym (chunks_of-concat 2048 order (omega arith))) c.requires.places) in
    rw (c.map.ensures.base, c.map.ensures.f, c.with_min_len.ensures.base, c.par_chunks.ensures.slice, c.par_chunks.ensures.size)
    (λ k d lt x is. ((c.requires.printable, subst Below (sym is) (all k d lt)), λ y p. tt))
