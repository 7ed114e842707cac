use Rattle.std.proofs.Common.{◌≡◌, ◌+◌, ◌-◌, get_or, arith}
use Rattle.prolog_tokens.specs.Digits.{number_at}
use Rattle.prolog_tokens.specs.Values.{IsRead}
use Rattle.prolog_tokens.proofs.Classes.{begins_behind}
use Rattle.prolog_tokens.proofs.Readings.{one_read}
use Rattle.prolog_tokens.proofs.values.number_value.Goals as goal

pub code_value-requires : goal.code_value-requires
code_value-requires c =
    let quote : get_or c.args.text.now (c.args.start + 1) 0 ≡ 39 = rw c.as_bytes-bytes.ensures.value at c.if-bytes-second-eq39.true in
    record { begins = begins_behind c.args.text.now (c.args.start + 1) c.utf8.text (omega (arith, quote)) }

pub returns-then-second-end : goal.returns-then-second-end
returns-then-second-end c = λ n is.
    let read : IsRead (number_at 10 c.args.text.now c.args.start (c.args.end - c.args.start)) c.digits_value.result = rw c.as_bytes-bytes.ensures.value at c.digits_value.ensures in
    one_read c.args.text.now c.args.start c.args.end n c.digits_value.result c.if-second-end.true read is
