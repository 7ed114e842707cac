use Rattle.std.proofs.Common.{◌≡◌, List, ℕ, length, map, All, refl, sym, ap, subst, ◌∙◌, arith}
use Rattle.std.proofs.lemmas.List.{length-map, with_items_is}
use Rattle.flat_graph.specs.Edges.{AreSuccessors, IsBelow}
use Rattle.byte_names.specs.Names.{names_of}
use Rattle.byte_names.specs.Ranks.{IsRanking}
use Rattle.edge_text.specs.Ranked.{ranked_edge}
use Rattle.edge_text.specs.Read.{IsWholeRead, Read, call_at, read_of}
use Rattle.edge_text.proofs.Graphs.{graph_is, names_are, ranks_below}
use Rattle.edge_text.proofs.reading.graph_of_read.Goals as goal
use denote.Ref.{Bor}

pub rank-requires : goal.rank-requires
rank-requires c =
    let same : read_of c.reader.inside.names c.reader.inside.edges.items ≡ c.args.reader = c.reader.view_is in
    omega (
      arith,
      c.requires.names,
      ap length c.names-2.ensures,
      ap (λ (r : Read). length r.names) same,
      length-map c.names-2.result.now (λ (name : Bor (List ℕ)). name.now),
    )

pub graph_of_edges-requires-clause-few : goal.graph_of_edges-requires-clause-few
graph_of_edges-requires-clause-few c =
    let given = c.reader.inside.edges in
    let ranks = c.in_ok-ranked.ranked.ranks.items in
    let put : c.rank_edges.new.edges ≡ map (ranked_edge ranks) given.items =
    c.rank_edges.ensures ∙ (λ i. map (ranked_edge (c.deref.ensures.value i)) (c.deref_mut.ensures.value i)) in
    let long : length c.rank_edges.new.edges ≡ given.len = ap length put ∙ length-map given.items (ranked_edge ranks) ∙ sym given.ok.0 in
    let now : c.deref-2.result.now ≡ map (ranked_edge ranks) given.items =
    c.deref-2.ensures.value ∙ with_items_is given c.rank_edges.new.edges long ∙ put in
    omega (
      arith,
      c.requires.calls,
      ap (λ (r : Read). length r.calls) c.reader.view_is,
      length-map given.items (call_at c.reader.inside.names),
      ap length now,
      length-map given.items (ranked_edge ranks),
    )

pub returns-then-len-gt-MOST_NODES : goal.returns-then-len-gt-MOST_NODES
returns-then-len-gt-MOST_NODES c said all =
    let read : Read = read_of c.reader.inside.names c.reader.inside.edges.items in
    let different = names_of c.in_ok-ranked.ranked.names.items in
    let whole : IsWholeRead said read = subst (IsWholeRead said) (sym c.reader.view_is) all in
    let ranking : IsRanking read.names different c.in_ok-ranked.ranked.ranks.items =
    subst (λ ns. IsRanking ns different c.in_ok-ranked.ranked.ranks.items) c.names-2.ensures c.in_ok-ranked.ensures in (
      omega (arith, whole.few, ap length whole.calls),
      (
        different,
        names_are said read different c.in_ok-ranked.ranked.ranks.items whole ranking,
        omega (
          arith,
          c.len.ensures,
          c.if-len-gt-MOST_NODES.true,
          c.in_ok-ranked.ranked.names.ok.0,
          length-map c.in_ok-ranked.ranked.names.items (λ (name : Bor (List ℕ)). name.now),
        ),
      ),
    )

pub graph_of_edges-requires-clause-below : goal.graph_of_edges-requires-clause-below
graph_of_edges-requires-clause-below c =
    let names = c.reader.inside.names in
    let given = c.reader.inside.edges in
    let ranks = c.in_ok-ranked.ranked.ranks.items in
    let different = names_of c.in_ok-ranked.ranked.names.items in
    let ranking : IsRanking names different ranks = subst (λ ns. IsRanking ns different ranks) c.names-2.ensures c.in_ok-ranked.ensures in
    let put : c.rank_edges.new.edges ≡ map (ranked_edge ranks) given.items =
    c.rank_edges.ensures ∙ (λ i. map (ranked_edge (c.deref.ensures.value i)) (c.deref_mut.ensures.value i)) in
    let long : length c.rank_edges.new.edges ≡ given.len = ap length put ∙ length-map given.items (ranked_edge ranks) ∙ sym given.ok.0 in
    let now : c.deref-2.result.now ≡ map (ranked_edge ranks) given.items =
    c.deref-2.ensures.value ∙ with_items_is given c.rank_edges.new.edges long ∙ put in
    let count : c.len-2.result ≡ length different =
    omega (
      arith,
      c.len-2.ensures,
      c.in_ok-ranked.ranked.names.ok.0,
      length-map c.in_ok-ranked.ranked.names.items (λ (name : Bor (List ℕ)). name.now),
    ) in
    subst (λ es. All (IsBelow c.len-2.result) es) (sym now)
    (subst (λ n. All (IsBelow n) (map (ranked_edge ranks) given.items)) (sym count)
    (ranks_below names different ranks given.items ranking c.reader.invariant))

pub returns : goal.returns
returns c said all =
    let given = c.reader.inside.edges in
    let ranks = c.in_ok-ranked.ranked.ranks.items in
    let read : Read = read_of c.reader.inside.names given.items in
    let different = names_of c.in_ok-ranked.ranked.names.items in
    let whole : IsWholeRead said read = subst (IsWholeRead said) (sym c.reader.view_is) all in
    let ranking : IsRanking read.names different ranks = subst (λ ns. IsRanking ns different ranks) c.names-2.ensures c.in_ok-ranked.ensures in
    let put : c.rank_edges.new.edges ≡ map (ranked_edge ranks) given.items =
    c.rank_edges.ensures ∙ (λ i. map (ranked_edge (c.deref.ensures.value i)) (c.deref_mut.ensures.value i)) in
    let long : length c.rank_edges.new.edges ≡ given.len = ap length put ∙ length-map given.items (ranked_edge ranks) ∙ sym given.ok.0 in
    let now : c.deref-2.result.now ≡ map (ranked_edge ranks) given.items =
    c.deref-2.ensures.value ∙ with_items_is given c.rank_edges.new.edges long ∙ put in
    let count : c.len-2.result ≡ length different =
    omega (
      arith,
      c.len-2.ensures,
      c.in_ok-ranked.ranked.names.ok.0,
      length-map c.in_ok-ranked.ranked.names.items (λ (name : Bor (List ℕ)). name.now),
    ) in
    let are : AreSuccessors (map (ranked_edge ranks) given.items) (length different) c.in_ok-graph.graph =
    subst (λ n. AreSuccessors (map (ranked_edge ranks) given.items) n c.in_ok-graph.graph) count
    (subst (λ es. AreSuccessors es c.len-2.result c.in_ok-graph.graph) now c.in_ok-graph.ensures) in (
      omega (arith, whole.few, ap length whole.calls),
      omega (arith, c.len.ensures, c.if-len-gt-MOST_NODES.false, c.in_ok-ranked.ranked.names.ok.0),
      graph_is said read different ranks given.items c.in_ok-graph.graph whole refl c.reader.invariant ranking are,
    )
