use Rattle.std.proofs.Common.{◌≡◌, ℕ, List, map, length, sym, rules, Vec, Global}
use Rattle.std.proofs.lemmas.Result.{IfOk-weaker}
use Rattle.std.proofs.lemmas.List.Sorted.{IsNonDecreasingBy-from_sort_by_key}
use Rattle.std.specs.List.Sorted.{IsNonDecreasingBy}
use Rattle.graph_law.specs.declared.call_order.Ranked.{Ranked}
use Rattle.graph_law.specs.Graph.{Calls, lists_of}
use Rattle.graph_law.specs.CallOrder.{IsCalleesFirst}
use Rattle.graph_law.specs.Ranked.{places}
use Rattle.graph_law.proofs.GraphLaws.{length-lists_of}
use Rattle.graph_law.proofs.RankLaws.{order_from_ranks}
use Rattle.graph_law.proofs.call_order.callees_first.Goals as goal

pub returns : goal.returns
returns c =
    let calls : ℕ → ℕ → Type 0 = Calls c.args.graph.now.lists in
    let groups : List (List ℕ) = lists_of c.args.groups.now in
    let sorted : List Ranked = c.sort_by_key.new.self.items in
    let up : IsNonDecreasingBy (λ each. each.rank) sorted =
    IsNonDecreasingBy-from_sort_by_key (λ each. each.rank) sorted c.in_ok-sort_by_key.ensures.sorted (λ a r q k. search rules) in
    let order : IsCalleesFirst calls groups (places sorted) =
    order_from_ranks (length c.args.groups.now) c.in_ok-ranked.ranked.items sorted c.requires.classes c.requires.apart
    (sym (length-lists_of c.args.groups.now)) c.in_ok-ranked.ensures c.in_ok-sort_by_key.ensures.permutation up in
    IfOk-weaker c.places_in.result (λ (list : Vec ℕ Global). list.items ≡ map (λ (each : Ranked). each.place) c.deref.result.now)
    (λ (list : Vec ℕ Global). IsCalleesFirst calls groups list.items)
    (λ list is. rw (is, c.deref.ensures.value) order) c.places_in.ensures
