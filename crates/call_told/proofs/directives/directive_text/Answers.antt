use Rattle.std.proofs.Common.{ap}
use Rattle.std.specs.String.{string_bytes}
use Rattle.call_edges.specs.PlacedSeen.{see_calls}
use Rattle.call_told.proofs.TextLemmas.{directives_told}
use Rattle.call_told.proofs.directives.directive_text.Goals as goal

pub returns : goal.returns
returns c =
    directives_told c.args.undefined c.args.program.now (see_calls c.in_ok-calls.calls.items) c.in_ok-calls.places.items
    (see_calls c.deref.result.now) c.deref-2.result.now (string_bytes c.new-text.result) (string_bytes c.push_directive_lines.new.text)
    c.in_ok-calls.ensures (ap see_calls c.deref.ensures.value) c.deref-2.ensures.value c.new-text.ensures.bytes c.in_ok-push_directive_lines.ensures
