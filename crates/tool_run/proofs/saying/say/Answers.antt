use Rattle.tool_run.proofs.Said.{taken_unflushed}
use Rattle.tool_run.proofs.saying.say.Goals as goal

pub returns-in-Failed-clause-said : goal.returns-in-Failed-clause-said
returns-in-Failed-clause-said c = λ c'.
    let failed = c'.in-Failed.ensures in
    let whole = c'.if-not-put_all.ensures in
    taken_unflushed c'.args.bytes.now (c.S.Sink.seen c'.args.sink.now) (c.S.Sink.seen c'.put_all.new.sink) (c.S.Sink.seen c'.flush.new.self) whole.all whole.faults_kept
    failed.faults_kept (failed.flush.0, failed.flush.2)
