use Rattle.std.proofs.Common.{◌++◌, inl, inr, map, ap, ◌∙◌}
use Rattle.std.specs.String.{string_bytes}
use Rattle.std.proofs.lemmas.Slice.Zip.{either_empty_from_Zip}
use Rattle.call_edges.specs.PlacedSeen.{see_call, see_calls}
use Rattle.call_writer.specs.Lines.{directive_line_if}
use Rattle.call_writer.proofs.LineLemmas.{line_more, lines_done}
use Rattle.call_writer.proofs.directive_line.push_directive_lines.Goals as goal

pub loop-call-preserved : goal.loop-call-preserved
loop-call-preserved c = (
  c.in_ok-push_directive.ensures.program ∙ c.loop-call.invariant.0,
  line_more (λ pair. directive_line_if c.args.undefined c.args.program.now pair.0 pair.1) (see_calls c.loop-call.call-iterator.a.rest.now) (see_calls c.next.new.self.a.rest.now)
      c.loop-call.call-iterator.b.rest.now c.next.new.self.b.rest.now (see_call c.in-Some.call.now) c.in-Some.place.now (string_bytes c.loop-call.text) (string_bytes c.push_directive.new.text) _
      (ap (map see_call) c.in-Some.ensures.steps.0) c.in-Some.ensures.steps.1 (c.in_ok-push_directive.ensures.text ∙ ap (λ seen. string_bytes c.loop-call.text ++ directive_line_if c.args.undefined seen (see_call c.in-Some.call.now) c.in-Some.place.now) c.loop-call.invariant.0) c.loop-call.invariant.1,
)

pub returns : goal.returns
returns c =
    lines_done (λ pair. directive_line_if c.args.undefined c.args.program.now pair.0 pair.1) (see_calls c.loop-call.call-iterator.a.rest.now) c.loop-call.call-iterator.b.rest.now
    (string_bytes c.loop-call.text) _
    (elim (either_empty_from_Zip c.loop-call.call-iterator c.next.new.self c.next.result c.in-None.is c.next.ensures.steps) [
      | inl none ↦ inl (ap (map see_call) none)
      | inr none ↦ inr none
    ])
    c.loop-call.invariant.1
