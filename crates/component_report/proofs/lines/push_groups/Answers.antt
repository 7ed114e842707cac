use Rattle.std.proofs.Common.{◌≡◌, ℕ, ◌<◌, All, [], length, get_or, sym, subst}
use Rattle.graph_law.specs.Classes.{group_at}
use Rattle.graph_law.specs.Graph.{lists_of}
use Rattle.graph_law.proofs.GraphLaws.{group_read, within_lists}
use Rattle.component_report.proofs.lines.push_groups.Goals as goal

pub push_group-requires : goal.push_group-requires
push_group-requires c =
    let place : ℕ = get_or c.args.order.now c.loop-place.place-index 0 in
    let within : place < length c.args.groups.now = c.requires.places c.loop-place.place-index 0 c.loop-place-test.true in
    let is : c.deref.result.now ≡ group_at (lists_of c.args.groups.now) place =
    group_read c.args.groups.now place c.index-groups-place.result c.deref.result.now within c.index-groups-place.is c.deref.ensures.value in
    subst (All (λ member. member < length c.args.names.now)) (sym is)
    (c.requires.within place [] (within_lists c.args.groups.now place within))
