use Rattle.std.proofs.Common.{◌++◌, ap, ◌∙◌}
use Rattle.std.specs.String.{string_bytes}
use Rattle.std.proofs.lemmas.Slice.Zip.{either_empty_from_Zip}
use Rattle.call_writer.specs.Lines.{clause_line}
use Rattle.call_writer.proofs.LineLemmas.{line_more, lines_done}
use Rattle.call_writer.proofs.lines.push_clause_lines.Goals as goal

pub loop-clause-preserved : goal.loop-clause-preserved
loop-clause-preserved c = (
  c.in_ok-push_clause.ensures.program ∙ c.loop-clause.invariant.0,
  line_more (λ pair. clause_line c.args.program.now pair.0 pair.1) c.loop-clause.clause-iterator.a.rest.now c.next.new.self.a.rest.now
      c.loop-clause.clause-iterator.b.rest.now c.next.new.self.b.rest.now c.in-Some.clause.now c.in-Some.extent.now (string_bytes c.loop-clause.text) (string_bytes c.push_clause.new.text) _
      c.in-Some.ensures.steps.0 c.in-Some.ensures.steps.1 (c.in_ok-push_clause.ensures.text ∙ ap (λ seen. string_bytes c.loop-clause.text ++ clause_line seen c.in-Some.clause.now c.in-Some.extent.now) c.loop-clause.invariant.0) c.loop-clause.invariant.1,
)

pub returns : goal.returns
returns c =
    lines_done (λ pair. clause_line c.args.program.now pair.0 pair.1) c.loop-clause.clause-iterator.a.rest.now c.loop-clause.clause-iterator.b.rest.now
    (string_bytes c.loop-clause.text) _
    (either_empty_from_Zip c.loop-clause.clause-iterator c.next.new.self c.next.result c.in-None.is c.next.ensures.steps)
    c.loop-clause.invariant.1
