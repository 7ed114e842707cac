use Rattle.std.proofs.Common.{◌≡◌, ◌-◌}
use Rattle.std.specs.Prelude.{min}
use Rattle.prolog_tokens.specs.Digits.{number_at}
use Rattle.prolog_tokens.proofs.digits.capped_number.Given as goal

abbrev pub invariant-loop-at : goal.invariant-loop-at
invariant-loop-at l = l.number ≡ min (number_at l.base l.bytes l.from (l.at - l.from)) 4294967296
