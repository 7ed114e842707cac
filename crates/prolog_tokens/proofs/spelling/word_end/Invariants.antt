use Rattle.std.proofs.Common.{length, ◌-◌, ◌≡◌, ℕ, ◌<◌, ◌≤◌, true}
use Rattle.prolog_tokens.specs.Chars.{class_at, continues}
use Rattle.prolog_tokens.proofs.spelling.word_end.Given as goal

abbrev pub invariant-loop-end : goal.invariant-loop-end
invariant-loop-end l = record {
  from : l.from ≤ l.end;
  within : l.end ≤ length l.text;
  goes_on : (k : ℕ) → l.from ≤ k → k < l.end → continues (class_at l.text k) ≡ true;
}

abbrev pub decreases-loop-end : goal.decreases-loop-end
decreases-loop-end l = length l.text - l.end
