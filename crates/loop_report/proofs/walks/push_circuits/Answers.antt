use Rattle.std.proofs.Common.{ℕ, ◌<◌, None, get_or, length, sym, ap, ◌∙◌, subst, arith}
use Rattle.std.proofs.lemmas.List.{get_or-map, length-map}
use Rattle.loop_report.specs.Walks.{IsCircuitWithin, see_circuit}
use Rattle.loop_report.proofs.walks.push_circuits.Goals as goal

pub push_circuit-requires : goal.push_circuit-requires
push_circuit-requires c =
    let circuits = c.args.circuits.now in
    let place : ℕ = get_or c.args.order.now c.loop-place.place-index 0 in
    let lt : place < length circuits = c.requires.places c.loop-place.place-index 0 c.loop-place-test.true in
    let long = length-map circuits see_circuit in
    let read = get_or-map see_circuit circuits place c.index-circuits-place.result None lt ∙ ap see_circuit (sym c.index-circuits-place.is) in
    subst (IsCircuitWithin (length c.args.program.now.predicates)) read (c.requires.within place None (omega (arith, lt, long)))
