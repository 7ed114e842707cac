use Rattle.std.proofs.Common.{◌≡◌, ℕ, List, map, take}
use Rattle.std.specs.Arc.{arc_value}
use Rattle.kept_clauses.specs.Words.{kept_tree}
use Rattle.clause_text.specs.Clauses.{clause_trees}
use Rattle.clause_text.proofs.piece.sharing.Given as goal

-- the clauses so far
abbrev pub invariant-loop-at : goal.invariant-loop-at
invariant-loop-at l = (names : List (List ℕ)) → clause_trees names l.clauses.items ≡ map (kept_tree names (arc_value l.list)) (take l.at-index l.begins)
