use Rattle.std.proofs.Common.{◌≡◌, ◌<◌, All, length, sym, subst}
use Rattle.graph_law.specs.Graph.{lists_of}
use Rattle.call_edges.specs.Successors.{successor_lists}
use Rattle.call_edges.proofs.SuccessorLemmas.{lists_closed, lists_count}
use Rattle.call_table.specs.Memberships.{AreGroupsOf}
use Rattle.call_table.specs.Reached.{AreNodes}
use Rattle.call_told.specs.EdgeLists.{AreBelow}
use Rattle.call_told.proofs.EdgeLemmas.{edges_below, edges_once}
use Rattle.call_told.proofs.condensed.edges_of.Goals as goal

pub returns-clause-are : goal.returns-clause-are
returns-clause-are c =
    let told = c.args.told.now in
    edges_once (successor_lists told.program.now) (lists_of told.groups.items) told.places.items told.nodes.items c.in_ok-edges.edges.items
    c.sort_unstable.new.self.items c.dedup.new.self.items c.in_ok-edges.ensures c.sort_unstable.ensures.permutation c.sort_unstable.ensures.sorted
    c.dedup.ensures.filtered

pub returns-clause-below : goal.returns-clause-below
returns-clause-below c =
    let told = c.args.told.now in
    let seen = told.program.now in
    let groups = lists_of told.groups.items in
    let are = c.requires.told in
    let count : length seen.predicates ≡ length (successor_lists seen) = sym (lists_count seen) in
    subst (λ n. All (AreBelow n) c.dedup.new.self.items) (sym count)
    (edges_below (successor_lists seen) groups told.places.items told.nodes.items c.dedup.new.self.items (lists_closed seen)
    (subst (λ n. AreNodes n groups) count are.groups_are) (subst (λ n. AreGroupsOf n groups told.places.items) count are.placed)
    (subst (λ n. All (λ p. p < n) told.nodes.items) count are.nodes_below) (returns-clause-are c))
