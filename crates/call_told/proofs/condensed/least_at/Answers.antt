use Rattle.std.proofs.Common.{◌≡◌, ℕ, ◌<◌, List, [], length, refl, ap, arith}
use Rattle.graph_law.specs.Classes.{group_at}
use Rattle.graph_law.specs.Graph.{lists_of}
use Rattle.graph_law.proofs.GraphLaws.{group_read, within_lists}
use Rattle.call_told.proofs.condensed.least_at.Goals as goal

pub index-requires : goal.index-requires
index-requires c =
    let groups : List (List ℕ) = lists_of c.args.groups.now in
    let n : ℕ = c.args.place in
    let lt : n < length c.args.groups.now = c.requires.within in
    let is : c.index-groups-place.result.items ≡ group_at groups n =
    group_read c.args.groups.now n c.index-groups-place.result c.index-groups-place.result.items lt c.index-groups-place.is refl in
    let same = ap length is in
    let room = c.index-groups-place.result.ok.0 in
    let some : 0 < length (group_at groups n) = c.requires.inhabited n [] (within_lists c.args.groups.now n lt) in
    omega (arith, same, room, some)
