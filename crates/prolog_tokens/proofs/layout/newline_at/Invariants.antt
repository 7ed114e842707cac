use Rattle.std.proofs.Common.{◌≢◌, ℕ, length, ◌-◌, ◌<◌, ◌≤◌, slice_index}
use Rattle.prolog_tokens.proofs.layout.newline_at.Given as goal

abbrev pub invariant-loop-end : goal.invariant-loop-end
invariant-loop-end l = record {
  from : l.from ≤ l.end;
  within : l.end ≤ length l.bytes;
  none : (k : ℕ) → l.from ≤ k → k < l.end → slice_index l.bytes k ≢ 10;
}

abbrev pub decreases-loop-end : goal.decreases-loop-end
decreases-loop-end l = length l.bytes - l.end
