use Rattle.std.proofs.Common.{◌++◌, ◌∷◌, [], ap, ◌∙◌}
use Rattle.call_told.specs.Told.{joined}
use Rattle.call_told.proofs.StretchLemmas.{one_text}
use Rattle.call_told.proofs.text.dot_texts.Goals as goal

pub returns : goal.returns
returns c =
    ap joined (c.in_ok-push.ensures.items ∙ ap (λ xs. xs ++ c.in_ok-text.text ∷ []) c.new-texts.ensures.items)
    ∙ (one_text c.in_ok-text.text ∙ c.in_ok-text.ensures)
