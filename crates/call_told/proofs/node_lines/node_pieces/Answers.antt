use Rattle.std.proofs.Common.{◌≡◌, ◌<◌, ℕ, List, All, String, Global, Result, IfOk, length, ap, ◌∙◌, subst, sym, arith}
use Rattle.std.specs.Prelude.{map, max}
use Rattle.std.specs.Borrow.{Bor}
use Rattle.std.specs.List.{AllZip, flat_map}
use Rattle.std.specs.String.{string_bytes}
use Rattle.std.specs.declared.alloc.AllocError.{AllocError}
use Rattle.rayon.specs.Lists.{chunks_of, chunks_size, chunks_slice, min_len_base}
use Rattle.rayon.proofs.ToStd.{slice-AllZip, chunks_of-concat}
use Rattle.graph_law.specs.Graph.{lists_of}
use Rattle.call_edges.proofs.SpreadLemmas.{all_in_parts}
use Rattle.call_table.specs.Marks.{see_marks}
use Rattle.call_told.specs.Told.{joined, node_line, node_lines}
use Rattle.call_told.proofs.StretchLemmas.{parts_lines, texts_found}
use Rattle.call_told.proofs.node_lines.node_pieces.Goals as goal

pub returns : goal.returns
returns g c =
    let told = c.args.told.now in
    let nodes = c.args.nodes.now in
    let parts = chunks_of 2048 nodes in
    let lines : List ℕ → List ℕ = node_lines c.args.lines told.program.now (lists_of told.groups.items) told.levels.items told.places.items (see_marks told.marks) in
    let h = c.in_ok-collect.ensures in
    let chain = h.1 in
    let shown : map (λ z. z.now) chain.0 ≡ parts =
    chain.1
    ∙ (ap (λ it. chunks_of (max (chunks_size (min_len_base it)) 1) (chunks_slice (min_len_base it))) c.map.ensures.base
    ∙ (ap (λ it. chunks_of (max (chunks_size it) 1) (chunks_slice it)) c.with_min_len.ensures.base
    ∙ (λ i. chunks_of (max (c.par_chunks.ensures.size i) 1) (c.par_chunks.ensures.slice i)))) in
    let made =
    subst
    (λ f. AllZip (λ (part : Bor (List ℕ)) (one : Result (String Global) AllocError). IfOk one
    (λ text. string_bytes text ≡ node_lines (f.2.now) (f.1.now.program.now) (lists_of f.1.now.groups.items) f.1.now.levels.items f.1.now.places.items (see_marks f.1.now.marks) part.now)) chain.0 h.0)
    c.map.ensures.f chain.2 in
    let line : ℕ → List ℕ = node_line c.args.lines told.program.now (lists_of told.groups.items) told.levels.items told.places.items (see_marks told.marks) in
    let whole = parts_lines line parts ∙ ap (flat_map line) (chunks_of-concat 2048 nodes (omega arith)) in
    subst (λ bytes. IfOk c.in_ok-collect.field-0 (λ v. joined v.items ≡ bytes)) whole
    (texts_found (λ v. v.items) lines parts h.0 c.in_ok-collect.field-0
    (slice-AllZip chain.0 parts shown (λ (part : List ℕ) (one : Result (String Global) AllocError). IfOk one (λ text. string_bytes text ≡ lines part)) h.0 made) h.2)

pub collect-requires-clause-ready : goal.collect-requires-clause-ready
collect-requires-clause-ready g c κs within =
    let told = c.args.told.now in
    let nodes = c.args.nodes.now in
    let Below : List ℕ → Type 0 = All (λ p. p < length told.program.now.predicates) in
    let all = all_in_parts (λ p. p < length told.program.now.predicates) (chunks_of 2048 nodes) nodes (chunks_of-concat 2048 nodes (omega arith)) c.requires.below in
    rw (c.map.ensures.base, c.map.ensures.f, c.with_min_len.ensures.base, c.par_chunks.ensures.slice, c.par_chunks.ensures.size)
    (λ k d lt x is. ((c.requires.told, subst Below (sym is) (all k d lt)), λ y p. tt))
