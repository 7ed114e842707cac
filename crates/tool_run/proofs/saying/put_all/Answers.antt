use Rattle.std.proofs.Common.{◌-◌, ◌+◌, take, drop, ap, ◌∙◌, arith, length-take, length-drop}
use Rattle.tool_run.specs.Sink.{more_taken}
use Rattle.tool_run.proofs.Said.{take_piece, more_twice}
use Rattle.tool_run.proofs.saying.put_all.Goals as goal

pub loop-at-preserved : goal.loop-at-preserved
loop-at-preserved g c =
    let bytes = c.args.bytes.now in
    let at = c.loop-at.at in
    let m = (at + c.min.result) - at in
    let put = c.in-Took.ensures.put in
    let before = take at bytes in (
      omega (arith, put.1, c.loop-at.invariant.0, length-take m (drop at bytes), length-drop at bytes),
      put.2
          ∙ (ap (λ t. more_taken t (take c.in-Took.count (take m (drop at bytes)))) c.loop-at.invariant.1
          ∙ (more_twice (g.S.Sink.seen c.args.sink.now).taken before (take c.in-Took.count (take m (drop at bytes)))
          ∙ ap (more_taken (g.S.Sink.seen c.args.sink.now).taken) (take_piece bytes at m c.in-Took.count put.1))),
      omega (arith, c.loop-at.invariant.2, c.in-Took.ensures.faults_kept),
    )
