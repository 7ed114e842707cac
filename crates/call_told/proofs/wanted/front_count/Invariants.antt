use Rattle.std.proofs.Common.{◌≡◌, ℕ, ◌<◌, [], false, get_or}
use Rattle.call_told.specs.Wanted.{is_end}
use Rattle.call_told.proofs.wanted.front_count.Given as goal

-- no word so far is `--`
abbrev pub invariant-loop-at : goal.invariant-loop-at
invariant-loop-at l = (k : ℕ) → k < l.at → is_end (get_or l.words k []) ≡ false
