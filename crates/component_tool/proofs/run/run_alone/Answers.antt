use Rattle.component_tool.proofs.RunLemmas.{run_keeps}
use Rattle.component_tool.proofs.run.run_alone.Goals as goal

pub returns-clause-run : goal.returns-clause-run
returns-clause-run g c =
    λ words lawful.
    run_keeps words (g.S.Source.seen c.args.source.now, g.S.Source.seen c.run_with.new.source)
    (g.O.Sink.seen c.args.out.now, g.O.Sink.seen c.run_with.new.out) (g.E.Sink.seen c.args.err.now, g.E.Sink.seen c.run_with.new.err)
    c.run_with.result (c.run_with.ensures.run words lawful)
