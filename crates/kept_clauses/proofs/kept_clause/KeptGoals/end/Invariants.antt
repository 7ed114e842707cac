use Rattle.std.proofs.Common.{◌≡◌, ◌-◌, drop, length}
use Rattle.kept_clauses.specs.Words.{end_in}
use Rattle.kept_clauses.proofs.kept_clause.KeptGoals.end.Given as goal

-- the end is that of the words that are left
abbrev pub invariant-loop-word : goal.invariant-loop-word
invariant-loop-word l = end_in (drop l.at l.self.list.now.0) ≡ end_in (drop l.self.at l.self.list.now.0)

abbrev pub decreases-loop-word : goal.decreases-loop-word
decreases-loop-word l = length l.self.list.now.0 - l.at
