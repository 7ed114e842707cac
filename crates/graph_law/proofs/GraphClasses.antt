-- What is known of the classes of a graph.
use Rattle.std.proofs.Common.{ℕ, ◌<◌, ◌≤◌, List, [], length, map, refl, arith}
use Rattle.std.proofs.lemmas.List.{length-map}
use Rattle.std.proofs.lemmas.List.Elements.{All-from_get_or, All-map}
use Rattle.std.specs.Prelude.{All}
use Rattle.graph_law.specs.Graph.{CallGraph, Calls, IsGraph}
use Rattle.graph_law.specs.Classes.{AreClasses, group_at, least_member}
use Rattle.graph_law.specs.CallOrder.{AreApart}
use Rattle.graph_law.proofs.ClassLaws.{classes_apart, least_is_member}
use Rattle.graph_law.proofs.GraphLaws.{reached_is_node}
use Rattle.graph_law.proofs.Increasing.{increasing_count}
use Rattle.graph_law.proofs.PlaceSteps.{all_below_from_apart}

-- their members are nodes, and no node is in two of them
pub apart_from_classes : {graph : CallGraph} {classes : List (List ℕ)} → IsGraph graph
    → AreClasses (Calls graph.lists) graph.roots classes → AreApart (length graph.lists) classes
apart_from_classes {graph} {classes} is are = record {
  below = λ i p lt member. reached_is_node is p (are.reached p (record { place = i; within = lt; member = member }));
  once = classes_apart classes are.each are.in_order;
}

-- there are no more classes than nodes
pub few_classes : {graph : CallGraph} {classes : List (List ℕ)} → IsGraph graph
    → AreClasses (Calls graph.lists) graph.roots classes → length classes ≤ length graph.lists
few_classes {graph} {classes} is are =
    let low : All (λ k. k < length graph.lists) (map least_member classes) =
    All-map (λ k. k < length graph.lists) least_member classes
    (All-from_get_or (λ class. least_member class < length graph.lists) classes []
    (λ i lt.
    reached_is_node is (least_member (group_at classes i))
    (are.reached (least_member (group_at classes i))
    (record { place = i; within = lt; member = least_is_member (are.each i [] lt) })))) in
    omega (arith, increasing_count (map least_member classes) (length graph.lists) are.in_order low, length-map classes least_member)

-- the members of a class are nodes
pub members_are_nodes : {graph : CallGraph} {classes : List (List ℕ)} → IsGraph graph
    → AreClasses (Calls graph.lists) graph.roots classes → (i : ℕ) → i < length classes
    → All (λ p. p < length graph.lists) (group_at classes i)
members_are_nodes {graph} {classes} is are i lt =
    all_below_from_apart (length graph.lists) classes i (group_at classes i) refl lt (apart_from_classes is are)
