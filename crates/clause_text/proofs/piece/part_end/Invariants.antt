use Rattle.std.proofs.Common.{◌≢◌, ℕ, ◌-◌, ◌<◌, ◌≤◌, length, Some}
use Rattle.prolog_tokens.specs.declared.token.Kind.TheVariants.{End}
use Rattle.clause_text.specs.Clauses.{kind_there}
use Rattle.clause_text.proofs.piece.part_end.Given as goal

abbrev pub invariant-loop-at : goal.invariant-loop-at
invariant-loop-at l = (l.fn.from ≤ l.at) × (l.at < length l.tokens) × ((k : ℕ) → l.fn.from ≤ k → k < l.at → kind_there l.tokens k ≢ Some End)

abbrev pub decreases-loop-at : goal.decreases-loop-at
decreases-loop-at l = length l.tokens - l.at
