use Rattle.std.proofs.Common.{◌≡◌, ◌<◌, length, rules}
use Rattle.graph_law.specs.Graph.{lists_of, IsClosed}
use Rattle.search_machine.proofs.Driving.{ended, made_closed, next_driven, picked_in, picked_some}
use Rattle.search_machine.proofs.schedule.drive.drive_many.Goals as goal

pub returns-then-is_empty-clause-run : goal.returns-then-is_empty-clause-run
returns-then-is_empty-clause-run g c =
    let none : length c.list_actors.new.places.items ≡ 0 = search rules in
    ended c.turns.invariant c.list_actors.new.places.items (lists_of c.into_groups.result.items) c.in_ok-list_actors.ensures none c.into_groups.ensures

pub returns-then-is_empty-clause-complete : goal.returns-then-is_empty-clause-complete
returns-then-is_empty-clause-complete g c =
    let none : length c.list_actors.new.places.items ≡ 0 = search rules in
    let scheduled =
    ended c.turns.invariant c.list_actors.new.places.items (lists_of c.into_groups.result.items) c.in_ok-list_actors.ensures none c.into_groups.ensures in
    let closed : IsClosed (g.O.Opener.lists c.args.opener.now) =
    made_closed (g.O.Opener.lists c.args.opener.now) c.args.roots.now c.args.searches c.in_ok-machine.machine c.in_ok-machine.ensures c.keeps.ensures in
    c.schedules_answer.ensures.complete (g.O.Opener.lists c.args.opener.now) c.args.roots.now c.args.searches c.args.seed
    (lists_of c.into_groups.result.items) closed c.requires.roots c.requires.some scheduled

pub returns-then-is_empty-clause-reached : goal.returns-then-is_empty-clause-reached
returns-then-is_empty-clause-reached g c =
    let none : length c.list_actors.new.places.items ≡ 0 = search rules in
    let scheduled =
    ended c.turns.invariant c.list_actors.new.places.items (lists_of c.into_groups.result.items) c.in_ok-list_actors.ensures none c.into_groups.ensures in
    let closed : IsClosed (g.O.Opener.lists c.args.opener.now) =
    made_closed (g.O.Opener.lists c.args.opener.now) c.args.roots.now c.args.searches c.in_ok-machine.machine c.in_ok-machine.ensures c.keeps.ensures in
    c.schedules_answer.ensures.reached (g.O.Opener.lists c.args.opener.now) c.args.roots.now c.args.searches c.args.seed
    (lists_of c.into_groups.result.items) closed c.requires.roots scheduled

pub returns-then-is_empty-clause-legal : goal.returns-then-is_empty-clause-legal
returns-then-is_empty-clause-legal g c =
    let none : length c.list_actors.new.places.items ≡ 0 = search rules in
    let scheduled =
    ended c.turns.invariant c.list_actors.new.places.items (lists_of c.into_groups.result.items) c.in_ok-list_actors.ensures none c.into_groups.ensures in
    let closed : IsClosed (g.O.Opener.lists c.args.opener.now) =
    made_closed (g.O.Opener.lists c.args.opener.now) c.args.roots.now c.args.searches c.in_ok-machine.machine c.in_ok-machine.ensures c.keeps.ensures in
    c.schedules_answer.ensures.legal (g.O.Opener.lists c.args.opener.now) c.args.roots.now c.args.searches c.args.seed
    (lists_of c.into_groups.result.items) closed c.requires.roots scheduled

pub take_turn-requires-clause-can : goal.take_turn-requires-clause-can
take_turn-requires-clause-can g c κs within =
    let picked = rw c.deref.ensures.value at c.pick-place.ensures in
    c.in_ok-list_actors.ensures.can c.pick-place.result
    (picked_in c.list_actors.new.places.items _ c.pick-place.result picked)

pub turns-preserved : goal.turns-preserved
turns-preserved g c =
    let picked = rw c.deref.ensures.value at c.pick-place.ensures in
    let some : 0 < length c.list_actors.new.places.items = picked_some c.list_actors.new.places.items _ c.pick-place.result picked in
    next_driven c.turns.invariant c.number_after-number.result c.pick-place.result c.list_actors.new.places.items c.take_turn.new.machine
    c.number_after-number.ensures c.in_ok-list_actors.ensures some picked c.in_ok-take_turn.ensures.event c.in_ok-take_turn.ensures.only
