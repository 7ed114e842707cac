use Rattle.std.proofs.Common.{length, ◌-◌, ◌≡◌, ℕ, ◌<◌, ◌≤◌, true}
use Rattle.prolog_tokens.specs.Chars.{class_at, is_graphic}
use Rattle.prolog_tokens.proofs.spelling.run_end.Given as goal

abbrev pub invariant-loop-end : goal.invariant-loop-end
invariant-loop-end l = record {
  some : l.start < l.end;
  within : l.end ≤ length l.text;
  graphic : (k : ℕ) → l.start ≤ k → k < l.end → is_graphic (class_at l.text k) ≡ true;
}

abbrev pub decreases-loop-end : goal.decreases-loop-end
decreases-loop-end l = length l.text - l.end
