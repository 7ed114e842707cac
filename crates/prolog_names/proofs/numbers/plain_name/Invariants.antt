use Rattle.std.proofs.Common.{◌≢◌, ◌<◌, ℕ, get_or}
use Rattle.prolog_names.proofs.numbers.plain_name.Given as goal

-- the bytes so far mean themselves
abbrev pub invariant-loop-byte : goal.invariant-loop-byte
invariant-loop-byte l = record {
  no_quote : (k : ℕ) → k < l.byte-index → get_or l.byte-items k 0 ≢ 39;
  no_backslash : (k : ℕ) → k < l.byte-index → get_or l.byte-items k 0 ≢ 92;
}
