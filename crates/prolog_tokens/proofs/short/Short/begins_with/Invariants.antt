use Rattle.std.proofs.Common.{◌≡◌, ◌<◌, ℕ, get_or}
use Rattle.prolog_tokens.proofs.short.Short.begins_with.Given as goal

-- the bytes so far are those of the text
abbrev pub invariant-loop-at : goal.invariant-loop-at
invariant-loop-at l = (k : ℕ) → k < l.at → get_or l.self-inside.bytes k 0 ≡ get_or l.text k 0
