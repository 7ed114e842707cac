use Rattle.std.proofs.Common.{refl}
use Rattle.component_tool.proofs.RunLemmas.{run_keeps, usage_run, wanting_run}
use Rattle.component_tool.proofs.run.run_components.Goals as goal

pub returns-in-Ok-Some-clause-run : goal.returns-in-Ok-Some-clause-run
returns-in-Ok-Some-clause-run g c = c.run_settings.ensures.run c.args.words.now (rw c.in-Ok-Some.field-0-is at c.in-Ok-Some.ensures)

pub returns-in-Ok-None-clause-run : goal.returns-in-Ok-None-clause-run
returns-in-Ok-None-clause-run g c =
    run_keeps c.args.words.now (g.S.Source.seen c.args.source.now, g.S.Source.seen c.args.source.now)
    (g.O.Sink.seen c.args.out.now, g.O.Sink.seen c.args.out.now) (g.E.Sink.seen c.args.err.now, g.E.Sink.seen c.say_with.new.sink) c.say_with.result
    (usage_run c.args.words.now (g.S.Source.seen c.args.source.now, g.S.Source.seen c.args.source.now)
    (g.O.Sink.seen c.args.out.now, g.O.Sink.seen c.args.out.now) (g.E.Sink.seen c.args.err.now, g.E.Sink.seen c.say_with.new.sink) c.say_with.result
    (rw c.in-Ok-None.field-0-is at c.in-Ok-None.ensures) refl (rw c.as_bytes.ensures.value at c.say_with.ensures, refl))

pub returns-in-Err-clause-run : goal.returns-in-Err-clause-run
returns-in-Err-clause-run g c =
    run_keeps c.args.words.now (g.S.Source.seen c.args.source.now, g.S.Source.seen c.args.source.now)
    (g.O.Sink.seen c.args.out.now, g.O.Sink.seen c.args.out.now) (g.E.Sink.seen c.args.err.now, g.E.Sink.seen c.say_with-in-Err.new.sink) c.say_with-in-Err.result
    (wanting_run c.args.words.now (g.S.Source.seen c.args.source.now, g.S.Source.seen c.args.source.now)
    (g.O.Sink.seen c.args.out.now, g.O.Sink.seen c.args.out.now) (g.E.Sink.seen c.args.err.now, g.E.Sink.seen c.say_with-in-Err.new.sink) c.say_with-in-Err.result
    (rw c.as_bytes-in-Err.ensures.value at c.say_with-in-Err.ensures, refl))
