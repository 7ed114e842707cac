use Rattle.std.proofs.Common.{◌++◌, ◌∙◌, ap}
use Rattle.call_told.specs.Told.{joined}
use Rattle.call_told.proofs.StretchLemmas.{text_behind}
use Rattle.call_told.proofs.node_lines.node_texts.Goals as goal

pub returns : goal.returns
returns g c =
    ap joined c.in_ok-append.ensures.items
    ∙ (text_behind c.in_ok-texts.texts.items c.in_ok-groups.groups.items ∙ (λ i. c.in_ok-texts.ensures i ++ c.in_ok-groups.ensures i))
