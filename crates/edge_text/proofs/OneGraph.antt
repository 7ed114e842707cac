-- What is said has one graph.
use Rattle.std.proofs.Common.{◌≡◌, ℕ, ◌<◌, List, [], length, get_or, Contains, sym, subst, ◌∙◌, arith}
use Rattle.std.specs.Ordering.{nat_cmp}
use Rattle.std.specs.Cmp.Lexicographic.{slice_cmp}
use Rattle.std.specs.declared.cmp.Ordering.TheVariants.{Less}
use Rattle.std.proofs.lemmas.Cmp.{nat_list_cmp_total}
use Rattle.std.proofs.lemmas.List.{ext_get_or}
use Rattle.std.proofs.lemmas.List.Elements.{All-contains}
use Rattle.std.proofs.lemmas.List.Kept.{AllPairs-from_increasing}
use Rattle.list_laws.proofs.OneOrder.{IsStrict, less_strict, same_order}
use Rattle.graph_law.specs.Graph.{Calls}
use Rattle.edge_text.specs.EdgeGraph.{AreCallees, AreNames, IsEdgeGraph, Said}

-- each name of the one list is a name of the other
names_there : (said : Said) (names others : List (List ℕ)) → AreNames said names → AreNames said others → (name : List ℕ) → Contains names name
    → Contains others name
names_there said names others are also name has =
    All-contains (Contains others) (said.names) name also.all (All-contains (Contains (said.names)) names name are.only has)

one_names : (said : Said) (names others : List (List ℕ)) → AreNames said names → AreNames said others → names ≡ others
one_names said names others are also =
    same_order (λ a b. slice_cmp nat_cmp a b ≡ Less) (less_strict (slice_cmp nat_cmp) nat_list_cmp_total) names others are.in_order also.in_order
    (names_there said names others are also) (names_there said others names also are)

below_strict : IsStrict (λ (a b : ℕ). a < b)
below_strict = record { one_way = λ a b there back. omega (arith, there, back) }

callees_there : (said : Said) (names lists others : List (List ℕ)) → AreCallees said names lists → AreCallees said names others → (p q : ℕ)
    → p < length names → Calls lists p q → Calls others p q
callees_there said names lists others are also p q within calls = also.all p q within (are.below p q within calls) (are.only p q within calls)

one_callees : (said : Said) (names lists others : List (List ℕ)) → AreCallees said names lists → AreCallees said names others → lists ≡ others
one_callees said names lists others are also =
    ext_get_or [] lists others (are.each ∙ sym also.each)
    (λ p lt.
    let within : p < length names = omega (arith, lt, are.each) in
    same_order (λ (a b : ℕ). a < b) below_strict (get_or lists p []) (get_or others p [])
    (AllPairs-from_increasing (get_or lists p []) (are.ascending p [] lt))
    (AllPairs-from_increasing (get_or others p []) (also.ascending p [] (omega (arith, within, also.each))))
    (λ q. callees_there said names lists others are also p q within) (λ q. callees_there said names others lists also are p q within))

pub one_graph : (said : Said) (names others lists more : List (List ℕ)) → IsEdgeGraph said names lists → IsEdgeGraph said others more
    → (names ≡ others) × (lists ≡ more)
one_graph said names others lists more is also =
    let same : names ≡ others = one_names said names others is.nodes also.nodes in (
      same,
      one_callees said names lists more is.callees (subst (λ ns. AreCallees said ns more) (sym same) also.callees),
    )
