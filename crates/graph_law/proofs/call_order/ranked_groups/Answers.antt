use Rattle.std.proofs.Common.{◌≡◌, ℕ, List, length, refl}
use Rattle.graph_law.specs.Graph.{Calls, lists_of}
use Rattle.graph_law.specs.Classes.{group_at}
use Rattle.graph_law.specs.CallOrder.{IsRank}
use Rattle.graph_law.proofs.GraphLaws.{group_read, within_lists}
use Rattle.graph_law.proofs.PlaceSteps.{all_below_from_apart}
use Rattle.graph_law.proofs.RankLaws.{ranked_push}
use Rattle.graph_law.proofs.call_order.ranked_groups.Goals as goal

pub reached_from-requires : goal.reached_from-requires
reached_from-requires c =
    let n : ℕ = c.loop-place.place in
    let is : c.deref.result.now ≡ group_at (lists_of c.args.groups.now) n =
    group_read c.args.groups.now n c.index-groups-place.result c.deref.result.now c.loop-place-test.true c.index-groups-place.is
    c.deref.ensures.value in
    all_below_from_apart (length c.args.graph.now.lists) (lists_of c.args.groups.now) n c.deref.result.now is
    (within_lists c.args.groups.now n c.loop-place-test.true) c.requires

pub loop-place-preserved : goal.loop-place-preserved
loop-place-preserved c =
    let n : ℕ = c.loop-place.place in
    let groups : List (List ℕ) = lists_of c.args.groups.now in
    let calls : ℕ → ℕ → Type 0 = Calls c.args.graph.now.lists in
    let count : ℕ = length c.args.graph.now.lists in
    let is : c.deref.result.now ≡ group_at groups n =
    group_read c.args.groups.now n c.index-groups-place.result c.deref.result.now c.loop-place-test.true c.index-groups-place.is
    c.deref.ensures.value in
    let rank : IsRank calls count (group_at groups n) c.count_marks-rank.result = record {
      marks = c.in_ok-marks.marks.items;
      reached = rw is at c.in_ok-marks.ensures;
      counted = rw c.deref-in-loop-place.ensures.value at c.count_marks-rank.ensures;
    } in
    rw c.in_ok-push.ensures.items
    (ranked_push calls count groups n c.loop-place.ranked.items (record { place = n; rank = c.count_marks-rank.result }) refl
    (record { within = within_lists c.args.groups.now n c.loop-place-test.true; rank = rank }) c.loop-place.invariant)
