use Rattle.std.proofs.Common.{◌<◌, length, arith}
use Rattle.std.proofs.lemmas.List.{map-set}
use Rattle.graph_law.specs.Graph.{lists_of}
use Rattle.graph_law.proofs.GraphLaws.{length-lists_of}
use Rattle.effect_flow.specs.Seen.{see_flow}
use Rattle.effect_flow.proofs.InTurn.{next_in_turn, right_all, right_next}
use Rattle.effect_flow.proofs.carriers.flows_in_turn.Goals as goal

pub flow_of-requires-clause-next : goal.flow_of-requires-clause-next
flow_of-requires-clause-next g c κs within =
    rw c.deref.ensures.value
    (next_in_turn c.requires c.loop-place.invariant (omega (arith, c.loop-place-test.true, length-lists_of c.args.grouped.now.groups.now)))

pub loop-place-preserved : goal.loop-place-preserved
loop-place-preserved g c =
    let flow = c.in_ok-flow.flow in
    let within : c.loop-place.place < length (lists_of c.args.grouped.now.groups.now) =
    omega (arith, c.loop-place-test.true, length-lists_of c.args.grouped.now.groups.now) in
    rw (map-set see_flow c.loop-place.flows.items c.loop-place.place flow) (right_next (see_flow flow) c.loop-place.invariant within c.in_ok-flow.ensures)

pub returns : goal.returns
returns g c =
    right_all c.loop-place.invariant (omega (arith, c.loop-place-test.false, length-lists_of c.args.grouped.now.groups.now))
