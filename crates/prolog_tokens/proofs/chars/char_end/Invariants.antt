use Rattle.std.proofs.Common.{◌≡◌, ℕ, length, ◌-◌, ◌<◌, ◌≤◌}
use Rattle.prolog_tokens.specs.declared.chars.Class.TheVariants.{Inner}
use Rattle.prolog_tokens.specs.Chars.{class_at}
use Rattle.prolog_tokens.proofs.chars.char_end.Given as goal

abbrev pub invariant-loop-end : goal.invariant-loop-end
invariant-loop-end l = record {
  some : l.at < l.end;
  within : l.end ≤ length l.bytes;
  inner : (k : ℕ) → l.at < k → k < l.end → class_at l.bytes k ≡ Inner;
}

abbrev pub decreases-loop-end : goal.decreases-loop-end
decreases-loop-end l = length l.bytes - l.end
