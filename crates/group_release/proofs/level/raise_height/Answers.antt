use Rattle.std.proofs.Common.{ℕ, ◌<◌, take, get_or, length, arith}
use Rattle.std.proofs.lemmas.List.{take_more}
use Rattle.group_release.proofs.RaisedSteps.{lead_more}
use Rattle.group_release.proofs.level.raise_height.Goals as goal

pub loop-callee-preserved : goal.loop-callee-preserved
loop-callee-preserved c =
    let k : ℕ = c.loop-callee.callee-index in
    let callee : ℕ = get_or c.args.callees.now k 0 in
    let earlier : get_or c.args.places.now callee 0 < length c.args.levels.now =
    omega (arith, c.if-place-levels.false, c.requires.known k 0 c.loop-callee-test.true) in
    rw (c.max-height.ensures, take_more c.args.callees.now k 0 c.loop-callee-test.true)
    (lead_more c.args.places.now (length c.args.levels.now) (take k c.args.callees.now) callee c.args.levels.now c.args.height
    c.loop-callee.height earlier c.loop-callee.invariant)
