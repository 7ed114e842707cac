use Rattle.std.proofs.Common.{◌≡◌, ◌-◌, ◌+◌, ◌*◌, get_or, ap, sym, ◌∙◌, arith}
use Rattle.std.specs.Prelude.{min}
use Rattle.std.specs.Char.{digit_value}
use Rattle.prolog_tokens.specs.Digits.{number_at}
use Rattle.prolog_tokens.proofs.Numerals.{number_more, capped_step}
use Rattle.prolog_tokens.proofs.digits.capped_number.Goals as goal

pub loop-at-preserved : goal.loop-at-preserved
loop-at-preserved c =
    let bytes = c.args.bytes.now in
    let before = number_at c.args.base bytes c.args.from (c.loop-at.at - c.args.from) in
    let d = digit_value (get_or bytes c.loop-at.at 0) in
    let was : c.loop-at.number ≡ min before 4294967296 = c.loop-at.invariant in
    let digit : c.from-in-loop-at.result ≡ d = c.from-in-loop-at.ensures ∙ c.digit_of.ensures in
    let base : c.from.result ≡ c.args.base = c.from.ensures in
    let sum : c.loop-at.number * c.from.result + c.from-in-loop-at.result ≡ min before 4294967296 * c.args.base + d = cc in
    c.min-number.ensures
    ∙ ap (λ n. min n 4294967296) sum
    ∙ capped_step 4294967296 c.args.base before d c.requires.base
    ∙ ap (λ n. min n 4294967296) (sym (number_more c.args.base bytes c.args.from c.loop-at.at (omega arith)))
