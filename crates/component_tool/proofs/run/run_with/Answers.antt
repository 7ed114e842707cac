use Rattle.component_tool.specs.End.{end_of}
use Rattle.component_words.specs.Settings.{see_settings}
use Rattle.component_tool.proofs.RunLemmas.{lawful_run}
use Rattle.component_tool.proofs.run.run_with.Goals as goal

pub returns-clause-run : goal.returns-clause-run
returns-clause-run g c =
    λ words lawful.
    lawful_run words (see_settings c.args.settings.now) (g.S.Source.seen c.args.source.now, g.S.Source.seen c.tell-told.new.source)
    (g.O.Sink.seen c.args.out.now, g.O.Sink.seen c.put_end.new.out) (g.E.Sink.seen c.args.err.now, g.E.Sink.seen c.put_end.new.err) c.put_end.result
    (end_of c.args.settings.now.file c.tell-told.result) lawful c.tell-told.ensures c.put_end.ensures.put
