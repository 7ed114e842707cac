use Rattle.std.specs.String.{string_bytes}
use Rattle.call_told.proofs.TextLemmas.{from_nothing}
use Rattle.call_told.proofs.node_lines.node_text.Goals as goal

pub returns : goal.returns
returns c = from_nothing (string_bytes c.in_ok-text.text) (string_bytes c.push_nodes.new.text) _ c.in_ok-text.ensures.bytes c.in_ok-push_nodes.ensures
