use Rattle.std.proofs.Common.{ℕ, length, ◌+◌, ◌-◌, ◌<◌, ◌≤◌}
use Rattle.prolog_tokens.specs.Layout.{IsCloser}
use Rattle.prolog_tokens.proofs.layout.bracketed_end.Given as goal

abbrev pub invariant-loop-close : goal.invariant-loop-close
invariant-loop-close l = record {
  from : l.start + 2 ≤ l.close;
  none : (k : ℕ) → l.start + 2 ≤ k → k < l.close → IsCloser l.bytes k → ⊥;
}

abbrev pub decreases-loop-close : goal.decreases-loop-close
decreases-loop-close l = length l.bytes - l.close
