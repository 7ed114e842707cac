use Rattle.std.proofs.Common.{◌+◌, ◌-◌, sym, rules}
use Rattle.prolog_tokens.specs.Digits.{number_at}
use Rattle.prolog_tokens.proofs.Longest.{AreDigits, some_digits, digits_write}
use Rattle.prolog_tokens.proofs.numbers.based_end.Goals as goal

pub returns-clause-based : goal.returns-clause-based
returns-clause-based c =
    let bytes = c.args.bytes.now in
    let base = c.in_ok-base.base in
    let from = c.args.start + 2 in
    let end = c.digits_end-end.result in
    let are : AreDigits base bytes from end =
    record { from = c.digits_end-end.ensures.from; within = c.digits_end-end.ensures.within; digits = c.digits_end-end.ensures.digits; stops = c.digits_end-end.ensures.stops } in (
      base,
      number_at base bytes from (end - from),
      record {
        zero_digit = search rules;
        letter = sym c.in_ok-base.ensures;
        writes = digits_write base bytes from end (some_digits base bytes from end are (λ is. c.if-end-digits.false (sym is)));
      },
    )
