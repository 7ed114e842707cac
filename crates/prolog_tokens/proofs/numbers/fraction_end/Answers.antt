use Rattle.std.proofs.Common.{◌+◌}
use Rattle.prolog_tokens.proofs.Longest.{AreDigits, fraction_longest}
use Rattle.prolog_tokens.proofs.numbers.fraction_end.Goals as goal

pub returns-clause-longest : goal.returns-clause-longest
returns-clause-longest c =
    let bytes = c.args.bytes.now in
    let are : AreDigits 10 bytes (c.args.at + 1) c.digits_end-end.result =
    record { from = c.digits_end-end.ensures.from; within = c.digits_end-end.ensures.within; digits = c.digits_end-end.ensures.digits; stops = c.digits_end-end.ensures.stops } in
    fraction_longest bytes c.args.at c.digits_end-end.result c.exponent_end.result are c.exponent_end.ensures.exponent c.exponent_end.ensures.longest
