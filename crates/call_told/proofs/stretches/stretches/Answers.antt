use Rattle.std.proofs.Common.{refl, arith}
use Rattle.call_told.proofs.StretchLemmas.{cutting_done, cutting_more, cutting_none}
use Rattle.call_told.proofs.stretches.stretches.Goals as goal

pub loop-rows-init : goal.loop-rows-init
loop-rows-init g c = cutting_none c.args.rows.now c.args.places.now c.new-cut.result.items c.requires c.new-cut.ensures.items

pub loop-rows-preserved : goal.loop-rows-preserved
loop-rows-preserved g c =
    let near = c.split_at in
    let near_by = c.split_at-in-loop-rows in
    cutting_more c.args.rows.now c.loop-rows.rows.now near.result.0.now near.result.1.now c.args.places.now c.loop-rows.places.now near_by.result.0.now near_by.result.1.now
    c.stretch_size-size.result c.loop-rows.cut.items c.push.new.self.items (record { rows = near.result.0; places = near_by.result.0 }) c.loop-rows.invariant near.ensures.by_index.0
    near_by.ensures.by_index.0 near.ensures.front_len near_by.ensures.front_len near.ensures.back_len near_by.ensures.back_len refl refl c.in_ok-push.ensures.items

pub returns : goal.returns
returns g c =
    cutting_done c.args.rows.now c.loop-rows.rows.now c.args.places.now c.loop-rows.places.now c.loop-rows.cut.items c.loop-rows.invariant
    (omega (arith, c.loop-rows-test.false))

pub split_at-requires-in-loop-rows : goal.split_at-requires-in-loop-rows
split_at-requires-in-loop-rows g c = omega (arith, c.loop-rows.invariant.left, c.stretch_size-size.ensures.within)

pub loop-rows-smaller : goal.loop-rows-smaller
loop-rows-smaller g c = omega (arith, c.split_at.ensures.back_len, c.stretch_size-size.ensures.some)
