use Rattle.std.proofs.Common.{◌≡◌, ◌≤◌, get_or, sym, ◌∙◌, ap}
use Rattle.std.proofs.lemmas.Option.{get_or_from_slice_get}
use Rattle.std.specs.Str.{chars}
use Rattle.prolog_tokens.specs.Chars.{code_at}
use Rattle.prolog_tokens.proofs.Classes.{far_class}
use Rattle.prolog_tokens.proofs.chars.far_class_at.Goals as goal

pub returns-in-Some : goal.returns-in-Some
returns-in-Some c =
    let text = c.args.text.now in
    let first : get_or (chars c.chars.result.rest.now) 0 0 ≡ c.in-Some.c = get_or_from_slice_get (chars c.chars.result.rest.now) 0 c.in-Some.c 0 (sym c.in-Some.ensures.steps.2) in
    let code : code_at text c.args.at ≡ c.in-Some.c = ap (λ bs. get_or (chars bs) 0 0) (sym (c.chars.ensures.rest ∙ c.range_from.ensures.value)) ∙ first in
    let far : 192 ≤ get_or text c.args.at 0 = rw c.as_bytes.ensures.value at c.if-as_bytes-at-lt192.false in
    c.past_ascii.ensures ∙ sym (far_class text c.args.at c.in-Some.c far code)
