use Rattle.std.proofs.Common.{inr, refl}
use Rattle.tool_run.specs.Say.{concatenated}
use Rattle.tool_run.proofs.Said.{taken_unflushed}
use Rattle.tool_run.proofs.saying.say_texts.Goals as goal

pub returns-in-Failed : goal.returns-in-Failed
returns-in-Failed c = λ c'.
    let failed = c'.in-Failed.ensures in
    let whole = c'.if-not-put_texts.ensures in
    inr (
      refl,
      taken_unflushed (concatenated c'.args.texts.now) (c.S.Sink.seen c'.args.sink.now) (c.S.Sink.seen c'.put_texts.new.sink)
          (c.S.Sink.seen c'.flush.new.self) whole.all whole.faults_kept failed.faults_kept (failed.flush.0, failed.flush.2),
    )
