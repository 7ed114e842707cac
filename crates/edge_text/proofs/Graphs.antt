-- What was read, between ranks, is the graph of what is said.
use Rattle.std.proofs.Common.{◌≡◌, ◌⊎◌, ℕ, ◌<◌, Bool, true, false, List, [], length, map, All, Contains, sym, ap, subst, ◌∙◌, inl, inr}
use Rattle.std.specs.Prelude.{slice_index}
use Rattle.std.specs.declared.cmp.Ordering.TheVariants.{Less, Equal}
use Rattle.std.specs.Ordering.{nat_cmp}
use Rattle.std.specs.Cmp.Lexicographic.{slice_cmp}
use Rattle.std.proofs.lemmas.Bool.{cases_order}
use Rattle.std.proofs.lemmas.Cmp.{nat_list_cmp_total, tied_itself}
use Rattle.std.proofs.lemmas.List.{get_or_default}
use Rattle.std.proofs.lemmas.List.Elements.{All-contains, All-weaker}
use Rattle.list_laws.proofs.Members.{all_by, map_from, map_has}
use Rattle.list_laws.proofs.OneOrder.{nothing_in}
use Rattle.flat_graph.specs.declared.edge.Edge.{Edge}
use Rattle.flat_graph.specs.Edges.{AreSuccessors, IsBelow, Leads}
use Rattle.byte_names.specs.Names.{name_at, AreInOrder}
use Rattle.byte_names.specs.Ranks.{IsRanking}
use Rattle.edge_text.specs.EdgeGraph.{Call, call_of, AreNames, IsEdgeGraph, Said, SaysCall}
use Rattle.edge_text.specs.Ranked.{ranked_edge}
use Rattle.edge_text.specs.Read.{IsTextRead, IsWholeRead, Read, call_at}

pub whole_of : (text : List ℕ) (read : Read) (b : Bool) → IsTextRead text read b → b ≡ true → IsTextRead text read true
whole_of text read true is e = is
whole_of text read false is e = absurd (let clash : false ≡ true = e in cc)

-- names in order are different
name_once : (names : List (List ℕ)) → AreInOrder names → (p q : ℕ) → p < length names → q < length names → name_at names p ≡ name_at names q → p ≡ q
name_once names up p q within inside same =
    let clash : (a b : ℕ) → a < b → b < length names → name_at names a ≡ name_at names b → ⊥ =
    λ a b lt below is.
    let less : slice_cmp nat_cmp (name_at names a) (name_at names b) ≡ Less = up a b [] lt below in
    let level : slice_cmp nat_cmp (name_at names a) (name_at names b) ≡ Equal =
    ap (slice_cmp nat_cmp (name_at names a)) (sym is) ∙ tied_itself nat_list_cmp_total (name_at names a) in
    let both : Less ≡ Equal = sym less ∙ level in
    cc in
    elim (cases_order p q) [
      | inl is ↦ is
      | inr apart ↦ elim apart [
        | inl before ↦ absurd (clash p q before inside same)
        | inr after ↦ absurd (clash q p after within (sym same))
      ]
    ]

-- the different names of those that were read are the names of the text
pub names_are : (said : Said) (read : Read) (different : List (List ℕ)) (ranks : List ℕ) → IsWholeRead said read → IsRanking read.names different ranks
    → AreNames said different
names_are said read different ranks whole ranking = record {
  in_order = ranking.in_order;
  only =
      all_by (Contains said.names) different
      (λ name has.
      elim (All-contains (λ n. Contains [] n ⊎ Contains said.names n) read.names name whole.names.only
      (All-contains (Contains read.names) different name ranking.only has)) [
        | inl none ↦ absurd (nothing_in name none)
        | inr heard ↦ heard
      ]);
  all =
      All-weaker (Contains read.names) (Contains different)
      (λ name has.
      let (place, lt, is) = has in
      let rank = slice_index ranks place in
      let named : name_at different rank ≡ name =
      ranking.named place lt ∙ get_or_default read.names place [] name lt ∙ is in
      (rank, ranking.within place lt, get_or_default different rank name [] (ranking.within place lt) ∙ named)) said.names whole.names.all;
}

-- both ends of each edge have ranks
pub ranks_below : (names different : List (List ℕ)) (ranks : List ℕ) (edges : List Edge) → IsRanking names different ranks → All (IsBelow (length names)) edges
    → All (IsBelow (length different)) (map (ranked_edge ranks) edges)
ranks_below names different ranks edges ranking below =
    all_by (IsBelow (length different)) (map (ranked_edge ranks) edges)
    (λ edge has.
    let (given, among, is) = map_from (ranked_edge ranks) edges edge has in
    let old : IsBelow (length names) given = All-contains (IsBelow (length names)) edges given below among in
    subst (IsBelow (length different)) is (record { from = ranking.within given.from old.from; to = ranking.within given.to old.to }))

-- an edge between ranks is a call between their names
leads_says : (said : Said) (names different : List (List ℕ)) (ranks : List ℕ) (edges : List Edge) → said.calls ≡ map (call_at names) edges
    → All (IsBelow (length names)) edges → IsRanking names different ranks → (p q : ℕ) → Leads (map (ranked_edge ranks) edges) p q
    → SaysCall said different p q
leads_says said names different ranks edges heard below ranking p q leads =
    let (edge, among, is) = map_from (ranked_edge ranks) edges (record { from = p; to = q }) leads in
    let old : IsBelow (length names) edge = All-contains (IsBelow (length names)) edges edge below among in
    let from : name_at names edge.from ≡ name_at different p =
    sym (ranking.named edge.from old.from) ∙ ap (λ (e : Edge). name_at different e.from) is in
    let to : name_at names edge.to ≡ name_at different q = sym (ranking.named edge.to old.to) ∙ ap (λ (e : Edge). name_at different e.to) is in
    let same : call_at names edge ≡ call_of (name_at different p) (name_at different q) = λ i. call_of (from i) (to i) in
    subst (λ cs. Contains cs (call_of (name_at different p) (name_at different q))) (sym heard)
    (subst (Contains (map (call_at names) edges)) same (map_has (call_at names) edges edge among))

says_leads : (said : Said) (names different : List (List ℕ)) (ranks : List ℕ) (edges : List Edge) → said.calls ≡ map (call_at names) edges
    → All (IsBelow (length names)) edges → IsRanking names different ranks → (p q : ℕ) → p < length different → q < length different
    → SaysCall said different p q → Leads (map (ranked_edge ranks) edges) p q
says_leads said names different ranks edges heard below ranking p q within inside says =
    let call = call_of (name_at different p) (name_at different q) in
    let (edge, among, is) = map_from (call_at names) edges call (subst (λ cs. Contains cs call) heard says) in
    let old : IsBelow (length names) edge = All-contains (IsBelow (length names)) edges edge below among in
    let from : slice_index ranks edge.from ≡ p =
    name_once different ranking.in_order (slice_index ranks edge.from) p (ranking.within edge.from old.from) within
    (ranking.named edge.from old.from ∙ ap (λ (c : Call). c.caller) is) in
    let to : slice_index ranks edge.to ≡ q =
    name_once different ranking.in_order (slice_index ranks edge.to) q (ranking.within edge.to old.to) inside
    (ranking.named edge.to old.to ∙ ap (λ (c : Call). c.callee) is) in
    let target : Edge = record { from = p; to = q } in
    let same : ranked_edge ranks edge ≡ target = λ i. record { from = from i; to = to i } in
    subst (Contains (map (ranked_edge ranks) edges)) same (map_has (ranked_edge ranks) edges edge among)

pub graph_is : (said : Said) (read : Read) (different : List (List ℕ)) (ranks : List ℕ) (edges : List Edge) (lists : List (List ℕ))
    → IsWholeRead said read → read.calls ≡ map (call_at read.names) edges → All (IsBelow (length read.names)) edges
    → IsRanking read.names different ranks → AreSuccessors (map (ranked_edge ranks) edges) (length different) lists → IsEdgeGraph said different lists
graph_is said read different ranks edges lists whole seen below ranking are =
    let heard : said.calls ≡ map (call_at read.names) edges = sym whole.calls ∙ seen in
    let small : All (IsBelow (length different)) (map (ranked_edge ranks) edges) = ranks_below read.names different ranks edges ranking below in
    record {
      nodes = names_are said read different ranks whole ranking;
      callees = record {
        each = are.each;
        ascending = are.ascending;
        below = λ p q within calls.
            let target : Edge = record { from = p; to = q } in
            let is : IsBelow (length different) target =
            All-contains (IsBelow (length different)) (map (ranked_edge ranks) edges) target small (are.only p q within calls) in
            is.to;
        only = λ p q within calls. leads_says said read.names different ranks edges heard below ranking p q (are.only p q within calls);
        all = λ p q within inside says.
            are.all p q within (says_leads said read.names different ranks edges heard below ranking p q within inside says);
      };
    }
