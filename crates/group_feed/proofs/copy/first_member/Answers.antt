use Rattle.std.proofs.Common.{◌≡◌, ℕ, ◌<◌, List, [], length, refl, ap, ◌∙◌, arith}
use Rattle.graph_law.specs.Classes.{group_at}
use Rattle.graph_law.proofs.GraphLaws.{group_read, length-lists_of}
use Rattle.group_feed.proofs.copy.first_member.Goals as goal

pub index-requires : goal.index-requires
index-requires c =
    let groups : List (List ℕ) = c.args.released.now.groups in
    let slice = c.groups.result.now in
    let n : ℕ = c.args.at in
    let long = ap length c.groups.ensures.groups in
    let lt : n < length slice = omega (arith, c.requires, long, length-lists_of slice) in
    let is : c.index-groups-at.result.items ≡ group_at groups n =
    group_read slice n c.index-groups-at.result c.index-groups-at.result.items lt c.index-groups-at.is refl ∙ ap (λ l. group_at l n) c.groups.ensures.groups in
    let same = ap length is in
    let room = c.index-groups-at.result.ok.0 in
    let some : 0 < length (group_at groups n) = c.groups.ensures.released.inhabited n [] c.requires in
    omega (arith, same, room, some)
