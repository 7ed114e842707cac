use Rattle.std.proofs.Common.{◌≡◌, ◌++◌}
use Rattle.std.specs.String.{string_bytes}
use Rattle.call_edges.specs.PlacedSeen.{see_calls}
use Rattle.call_writer.specs.Lines.{directive_line_if}
use Rattle.call_writer.proofs.LineLemmas.{lines_of}
use Rattle.call_writer.proofs.directive_line.push_directive_lines.Given as goal

-- the lines so far, with those to come
abbrev pub invariant-loop-call : goal.invariant-loop-call
invariant-loop-call l =
    (l.last.file.program.now ≡ l.program)
    × (string_bytes l.text
    ++ lines_of (λ pair. directive_line_if l.undefined l.program pair.0 pair.1) (see_calls l.call-iterator.a.rest.now) l.call-iterator.b.rest.now
    ≡ string_bytes l.initial.text ++ lines_of (λ pair. directive_line_if l.undefined l.program pair.0 pair.1) (see_calls l.calls) l.places)
