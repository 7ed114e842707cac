use Rattle.std.proofs.Common.{◌++◌, append_assoc, ap, ap₂, ◌∙◌}
use Rattle.component_tool.specs.Lines.{cause_text, place_text}
use Rattle.component_tool.proofs.lines.fault_line.Goals as goal

pub returns : goal.returns
returns c =
    let place = place_text c.args.fault in
    c.in_ok-push_str.ensures.bytes
    ∙ (ap₂ (λ t u. t ++ u) (c.in_ok-push_place.ensures ∙ ap (λ t. t ++ place) (c.in_ok-text.ensures.ok ∙ c.as_str.ensures)) c.cause_text.ensures
    ∙ append_assoc c.args.file.now place (cause_text c.args.fault.cause))
