-- The condensed graph has one list of edges.
use Rattle.std.proofs.Common.{◌≡◌, ℕ, List, sym, ◌∙◌}
use Rattle.std.specs.Ordering.{nat_cmp}
use Rattle.std.specs.declared.cmp.Ordering.TheVariants.{Less, Equal}
use Rattle.list_laws.proofs.OneOrder.{less_strict, same_order}
use Rattle.call_told.specs.Condensed.{AreEdges, IsEdge, edge_cmp, node_of}
use Rattle.call_told.specs.declared.condensed.Edge.{Edge}
use Rattle.call_told.proofs.EdgeLemmas.{all_edges, edge_cmp_total, edges_are}
use Rattle.laws.proofs.OrderedClauses.{both_equal, same_number}
use Rattle.laws.proofs.Orders.{HasOnce, has_once}

same_edge : (a b : Edge) → edge_cmp a b ≡ Equal → a ≡ b
same_edge a b tie =
    let both = both_equal (nat_cmp a.from b.from) (nat_cmp a.to b.to) tie in
    let from = same_number a.from b.from both.0 in
    let to = same_number a.to b.to both.1 in
    λ i. record { from = from i; to = to i }

pub has_edges : (lists groups : List (List ℕ)) (places nodes : List ℕ) → (edges : List Edge) × AreEdges lists groups places nodes edges
has_edges lists groups places nodes =
    let all = all_edges groups places lists nodes in
    let are = edges_are groups places lists nodes in
    let ordered : HasOnce edge_cmp edge_cmp_total all = has_once edge_cmp edge_cmp_total same_edge all in (
      ordered.once,
      record {
        ordered = ordered.rising;
        each = λ e. (λ has. (are e).0 ((ordered.each e).0 has), λ is. (ordered.each e).1 ((are e).1 is));
      },
    )

module _ (lists groups others : List (List ℕ)) (places other_places nodes : List ℕ) where
  moved : ((p : ℕ) → node_of groups places p ≡ node_of others other_places p) → (e : Edge) → IsEdge lists groups places nodes e
      → IsEdge lists others other_places nodes e
  moved same e is = record {
    caller = is.caller;
    callee = is.callee;
    told = is.told;
    calls = is.calls;
    from = sym (same is.caller) ∙ is.from;
    to = sym (same is.callee) ∙ is.to;
    apart = is.apart;
  }

module _ (lists groups others : List (List ℕ)) (places other_places nodes : List ℕ)
    (same : (p : ℕ) → node_of groups places p ≡ node_of others other_places p)
  where
    pub same_edges : (edges other : List Edge) → AreEdges lists groups places nodes edges → AreEdges lists others other_places nodes other → edges ≡ other
    same_edges edges other are also =
        same_order (λ a b. edge_cmp a b ≡ Less) (less_strict edge_cmp edge_cmp_total) edges other are.ordered also.ordered
        (λ e has. (also.each e).1 (moved lists groups others places other_places nodes same e ((are.each e).0 has)))
        (λ e has. (are.each e).1 (moved lists others groups other_places places nodes (λ p. sym (same p)) e ((also.each e).0 has)))
