use Rattle.std.proofs.Common.{ℕ, ◌<◌, None, get_or, length, sym, ap, ◌∙◌, subst, arith}
use Rattle.std.proofs.lemmas.List.{get_or-map, length-map}
use Rattle.component_report.specs.Cycles.{IsCycleWithin, see_cycle}
use Rattle.component_report.proofs.cycles.push_cycles.Goals as goal

pub push_cycle-requires : goal.push_cycle-requires
push_cycle-requires c =
    let cycles = c.args.cycles.now in
    let place : ℕ = get_or c.args.order.now c.loop-place.place-index 0 in
    let lt : place < length cycles = c.requires.places c.loop-place.place-index 0 c.loop-place-test.true in
    let long = length-map cycles see_cycle in
    let read = get_or-map see_cycle cycles place c.index-cycles-place.result None lt ∙ ap see_cycle (sym c.index-cycles-place.is) in
    subst (IsCycleWithin (length c.args.names.now)) read (c.requires.within place None (omega (arith, lt, long)))
