use Rattle.std.proofs.Common.{◌≡◌, sym, subst}
use Rattle.prolog_tokens.specs.declared.chars.Class.TheVariants.{OrderMark}
use Rattle.prolog_tokens.specs.Chars.{class_at}
use Rattle.prolog_tokens.specs.Numbers.{IsChar}
use Rattle.prolog_tokens.specs.Layout.{mark}
use Rattle.prolog_tokens.proofs.layout.piece_end.Goals as goal

pub returns-else-at-ne0 : goal.returns-else-at-ne0
returns-else-at-ne0 c =
    let text = c.args.text.now in
    let first : c.args.at ≡ 0 = c.if-at-ne0.false in
    let char : IsChar text c.args.at c.char_end-in-OrderMark.result = rw c.as_bytes-bytes.ensures.value at c.char_end-in-OrderMark.ensures in
    let is : class_at text c.args.at ≡ OrderMark = sym c.in-OrderMark.ensures in
    (mark, (first, record { is = subst (λ n. class_at text n ≡ OrderMark) first is; char = subst (λ n. IsChar text n c.char_end-in-OrderMark.result) first char }))
