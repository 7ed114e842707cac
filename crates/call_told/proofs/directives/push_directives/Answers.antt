use Rattle.std.proofs.Common.{refl, ap, ◌∙◌, ◌++◌, ◌∷◌, []}
use Rattle.std.specs.String.{string_bytes}
use Rattle.call_told.specs.Told.{joined}
use Rattle.call_told.proofs.StretchLemmas.{one_text, text_behind}
use Rattle.call_told.proofs.directives.push_directives.Goals as goal

pub returns : goal.returns
returns c =
    let texts = c.args.texts.now.items in
    record {
      front = joined texts;
      rest = string_bytes c.in_ok-text.text;
      table = refl;
      directives = c.in_ok-text.ensures;
      is = ap joined c.in_ok-push.ensures.items ∙ (text_behind texts (c.in_ok-text.text ∷ []) ∙ ap (λ bytes. joined texts ++ bytes) (one_text c.in_ok-text.text));
    }
