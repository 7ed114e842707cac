use Rattle.std.proofs.Common.{ap, ◌∙◌, arith}
use Rattle.std.proofs.lemmas.List.{take_all}
use Rattle.tool_run.specs.Sink.{more_taken}
use Rattle.tool_run.specs.Say.{concatenated}
use Rattle.tool_run.proofs.TextsSaid.{part_more, put_more}
use Rattle.tool_run.proofs.saying.put_texts.Goals as goal

pub loop-text-preserved : goal.loop-text-preserved
loop-text-preserved g c =
    let put = c.if-not-put_all.ensures in (
      put_more c.args.texts.now c.loop-text.text-index c.text-item.result c.loop-text-test.true c.text-item.is (g.S.Sink.seen c.args.sink.now).taken
          (g.S.Sink.seen c.loop-text.sink).taken (g.S.Sink.seen c.put_all.new.sink).taken c.loop-text.invariant.0
          (put.all ∙ ap (more_taken (g.S.Sink.seen c.loop-text.sink).taken) c.deref.ensures.value),
      omega (arith, c.loop-text.invariant.1, put.faults_kept),
    )

pub returns-then-not-put_all-clause-part : goal.returns-then-not-put_all-clause-part
returns-then-not-put_all-clause-part g c =
    let put = c.if-not-put_all.ensures in
    part_more c.args.texts.now c.loop-text.text-index c.text-item.result c.loop-text-test.true c.text-item.is (g.S.Sink.seen c.args.sink.now) (g.S.Sink.seen c.loop-text.sink)
    (g.S.Sink.seen c.put_all.new.sink) c.loop-text.invariant.0 c.loop-text.invariant.1 put.faults_kept (rw c.deref.ensures.value at put.part)

pub returns-clause-all : goal.returns-clause-all
returns-clause-all g c =
    c.loop-text.invariant.0
    ∙ ap (λ texts. more_taken (g.S.Sink.seen c.args.sink.now).taken (concatenated texts)) (take_all c.loop-text.text-index c.args.texts.now (omega (arith, c.loop-text-test.false)))
