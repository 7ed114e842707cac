use Rattle.std.proofs.Common.{length, ◌-◌, ℕ, ◌<◌, ◌≤◌, slice_index}
use Rattle.std.specs.Char.{digit_value}
use Rattle.prolog_tokens.proofs.digits.digits_end.Given as goal

abbrev pub invariant-loop-end : goal.invariant-loop-end
invariant-loop-end l = record {
  from : l.from ≤ l.end;
  within : l.end ≤ length l.bytes;
  digits : (k : ℕ) → l.from ≤ k → k < l.end → digit_value (slice_index l.bytes k) < l.base;
}

abbrev pub decreases-loop-end : goal.decreases-loop-end
decreases-loop-end l = length l.bytes - l.end
