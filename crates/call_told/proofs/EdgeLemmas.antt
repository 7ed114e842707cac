-- Edges of the condensed graph: those that are collected, in order and each once.
use Rattle.std.proofs.Common.{◌≡◌, ◌≢◌, ◌↔◌, ℕ, zero, suc, ◌-◌, ◌<◌, ◌==◌, nat_eq, ◌&&◌, Bool, true, false, List, [], ◌∷◌, All, length, flat_map, slice_index, slice_index_or, refl, ap, sym, ◌∙◌, subst, inl, inr, arith}
use Rattle.std.specs.Prelude.{Contains, if◌then◌else◌}
use Rattle.std.specs.List.{dedup}
use Rattle.std.specs.List.Retain.{IsFiltered, DiffersFromLast}
use Rattle.std.specs.List.Sorted.{IsSorted, IsPermutation}
use Rattle.std.specs.Ordering.{is_eq}
use Rattle.std.specs.Cmp.{IsEquivalence, IsTotalOrder, both_tied, unsigned_ties}
use Rattle.std.proofs.lemmas.Bool.{and_parts, false≢true, ne_eqb}
use Rattle.std.proofs.lemmas.Bool.Decides.{Decides-eqb}
use Rattle.std.proofs.lemmas.Cmp.{then_total, on_total, nat_cmp_total, and_equiv, on_equiv, nat_eq_equiv}
use Rattle.std.proofs.lemmas.List.Elements.{All-contains}
use Rattle.std.proofs.lemmas.List.Filters.{dedup_is}
use Rattle.std.proofs.lemmas.List.Kept.{Any-dedup, Contains-from_dedup, IsStrictlySortedBy-dedup}
use Rattle.std.proofs.lemmas.List.Sorted.{Contains-permutation, IsPermutation-sym}
use Rattle.std.proofs.lemmas.Map.Keys.{Less-from_sorted}
use Rattle.list_laws.proofs.Members.{all_by}
use Rattle.list_laws.proofs.OneOrder.{nothing_in, first_or_rest, in_first}
use Rattle.graph_law.specs.Classes.{group_at, least_member}
use Rattle.graph_law.specs.Graph.{IsClosed}
use Rattle.call_edges.proofs.AmongLemmas.{flat_has}
use Rattle.call_table.specs.Memberships.{AreGroupsOf, IsGroupOf}
use Rattle.call_table.specs.Reached.{AreNodes}
use Rattle.call_told.specs.Condensed.{AreEdges, IsEdge, edge_cmp, node_of}
use Rattle.call_told.specs.EdgeLists.{AreBelow, edge_to, edges_from}
use Rattle.call_told.specs.declared.condensed.Edge.{Edge}

module _ (groups : List (List ℕ)) (places : List ℕ) where
  abbrev at : ℕ → ℕ
  at p = node_of groups places p

  abbrev edge_between : ℕ → ℕ → Edge
  edge_between from callee = record { from = from; to = at callee }

  -- the edge to the node of a callee, which is another one
  to_has : (from callee : ℕ) (edge : Edge) → Contains (edge_to groups places from callee) edge → (edge_between from callee ≡ edge) × (from ≢ at callee)
  to_has from callee edge has = go (from == at callee) refl has
    where
      go : (b : Bool) → (from == at callee) ≡ b → Contains (edge_to groups places from callee) edge → (edge_between from callee ≡ edge) × (from ≢ at callee)
      go true same there = let none : Contains [] edge = rw same at there in absurd (nothing_in edge none)
      go false differ there =
          let one : Contains (edge_between from callee ∷ []) edge = rw differ at there in
          elim (first_or_rest (edge_between from callee) edge [] one) [
            | inl is ↦ (is, λ same. false≢true (sym differ ∙ (Decides-eqb from (at callee)).1 same))
            | inr later ↦ absurd (nothing_in edge later)
          ]

  has_to : (from callee : ℕ) → from ≢ at callee → Contains (edge_to groups places from callee) (edge_between from callee)
  has_to from callee differ =
      let one = edge_between from callee in
      let apart : (from == at callee) ≡ false = ne_eqb from (at callee) differ in
      subst (λ (b : Bool). Contains (if b then [] else one ∷ []) one) (sym apart) (in_first one [])

  module _ (lists : List (List ℕ)) (nodes : List ℕ) where
    abbrev pub all_edges : List Edge
    all_edges = flat_map (edges_from lists groups places) nodes

    collected : (edge : Edge) → Contains all_edges edge → IsEdge lists groups places nodes edge
    collected edge has =
        let from = (flat_has (edges_from lists groups places) nodes edge).0 has in
        let to = (flat_has (edge_to groups places (at from.one)) (slice_index_or lists from.one []) edge).0 from.is in
        let is = to_has (at from.one) to.one edge to.is in
        let from_is : at from.one ≡ edge.from = ap (λ (e : Edge). e.from) is.0 in
        let to_is : at to.one ≡ edge.to = ap (λ (e : Edge). e.to) is.0 in
        record {
          caller = from.one;
          callee = to.one;
          told = from.has;
          calls = to.has;
          from = from_is;
          to = to_is;
          apart = λ same. is.1 (from_is ∙ (same ∙ sym to_is));
        }

    collects : (edge : Edge) → IsEdge lists groups places nodes edge → Contains all_edges edge
    collects edge is =
        let apart : at is.caller ≢ at is.callee = λ same. is.apart (sym is.from ∙ (same ∙ is.to)) in
        let one : Contains (edge_to groups places (at is.caller) is.callee) (edge_between (at is.caller) is.callee) = has_to (at is.caller) is.callee apart in
        let same : edge_between (at is.caller) is.callee ≡ edge = λ i. record { from = is.from i; to = is.to i } in
        let here : Contains (edge_to groups places (at is.caller) is.callee) edge = subst (Contains (edge_to groups places (at is.caller) is.callee)) same one in
        let of_caller = (flat_has (edge_to groups places (at is.caller)) (slice_index_or lists is.caller []) edge).1
        (record { one = is.callee; has = is.calls; is = here }) in
        (flat_has (edges_from lists groups places) nodes edge).1 (record { one = is.caller; has = is.told; is = of_caller })

    pub edges_are : (edge : Edge) → Contains all_edges edge ↔ IsEdge lists groups places nodes edge
    edges_are edge = (collected edge, collects edge)

-- sorted, and each once

abbrev pub same_edge : Edge → Edge → Bool
same_edge a b = nat_eq a.from b.from && nat_eq a.to b.to

pub edge_cmp_total : IsTotalOrder edge_cmp
edge_cmp_total = then_total (on_total (λ (e : Edge). e.from) nat_cmp_total) (on_total (λ (e : Edge). e.to) nat_cmp_total)

same_edge_ties : (a b : Edge) → same_edge a b ≡ is_eq (edge_cmp a b)
same_edge_ties a b = both_tied _ _ _ _ (unsigned_ties a.from b.from) (unsigned_ties a.to b.to)

edge_equiv : IsEquivalence same_edge
edge_equiv = and_equiv (on_equiv (λ (e : Edge). e.from) nat_eq_equiv) (on_equiv (λ (e : Edge). e.to) nat_eq_equiv)

same_edge_parts : (a b : Edge) → same_edge a b ≡ true → a ≡ b
same_edge_parts a b e =
    let both = and_parts (nat_eq a.from b.from) (nat_eq a.to b.to) e in
    let from : a.from ≡ b.from = (Decides-eqb a.from b.from).0 both.0 in
    let to : a.to ≡ b.to = (Decides-eqb a.to b.to).0 both.1 in
    λ i. record { from = from i; to = to i }

pub edges_once : (lists groups : List (List ℕ)) (places nodes : List ℕ) (edges sorted kept : List Edge) → edges ≡ all_edges groups places lists nodes
    → IsPermutation edges sorted → IsSorted edge_cmp sorted → IsFiltered (DiffersFromLast same_edge) [] sorted kept → AreEdges lists groups places nodes kept
edges_once lists groups places nodes edges sorted kept are moved in_order filtered =
    let is = dedup_is same_edge sorted kept filtered in
    let once = dedup same_edge sorted in
    let rises = IsStrictlySortedBy-dedup edge_cmp_total same_edge_ties sorted in_order in
    subst (λ (es : List Edge). AreEdges lists groups places nodes es) (sym is)
    (record {
      ordered = λ i j d before lt. Less-from_sorted edge_cmp once i j d rises before lt;
      each = λ e. (
        λ has.
            let there = Contains-permutation sorted edges e (IsPermutation-sym edges sorted moved) (Contains-from_dedup same_edge sorted e has) in
            (edges_are groups places lists nodes e).0 (subst (λ (es : List Edge). Contains es e) are there),
        λ edge.
            let there = subst (λ (es : List Edge). Contains es e) (sym are) ((edges_are groups places lists nodes e).1 edge) in
            let found_one = Any-dedup edge_equiv sorted e (Contains-permutation edges sorted e moved there) in
            subst (λ x. Contains once x) (sym (same_edge_parts e found_one.1 found_one.4)) (found_one.0, found_one.2, found_one.3),
      );
    })

-- nodes are predicates

not_none : (place : ℕ) → (suc place == 0) ≡ false
not_none place = ne_eqb (suc place) 0 (λ same. let none : ⊥ = omega (arith, same) in none)

abbrev at_place : List (List ℕ) → ℕ → ℕ → ℕ
at_place groups p place = if place == 0 then p else least_member (group_at groups (place - 1))

at_below : (count : ℕ) (groups : List (List ℕ)) (p place : ℕ) → AreNodes count groups → p < count → IsGroupOf groups p place → at_place groups p place < count
at_below count groups p zero are lt is = lt
at_below count groups p (suc place) are lt is =
    let back : suc place - 1 ≡ place = omega arith in
    let same : at_place groups p (suc place) ≡ least_member (group_at groups place) =
    rw (not_none place) (ap (λ n. least_member (group_at groups n)) back) in
    subst (λ n. n < count) (sym same) (are.below place [] is.0 0 0 (are.inhabited place [] is.0))

pub node_below : (count : ℕ) (groups : List (List ℕ)) (places : List ℕ) (p : ℕ) → AreNodes count groups → AreGroupsOf count groups places → p < count
    → node_of groups places p < count
node_below count groups places p are placed lt = at_below count groups p (slice_index places p) are lt (placed.is p lt)

pub edges_below : (lists groups : List (List ℕ)) (places nodes : List ℕ) (edges : List Edge) → IsClosed lists → AreNodes (length lists) groups
    → AreGroupsOf (length lists) groups places → All (λ p. p < length lists) nodes → AreEdges lists groups places nodes edges
    → All (AreBelow (length lists)) edges
edges_below lists groups places nodes edges closed are placed below all =
    all_by (AreBelow (length lists)) edges
    (λ e has.
    let is = (all.each e).0 has in
    let caller : is.caller < length lists = All-contains (λ p. p < length lists) nodes is.caller below is.told in
    let callee : is.callee < length lists = closed is.caller is.callee is.calls in (
      subst (λ n. n < length lists) is.from (node_below (length lists) groups places is.caller are placed caller),
      subst (λ n. n < length lists) is.to (node_below (length lists) groups places is.callee are placed callee),
    ))
