use Rattle.std.proofs.Common.{◌≡◌, ◌++◌, map, take}
use Rattle.clause_text.specs.Clauses.{clause_trees}
use Rattle.call_table.specs.Clauses.{clause_at}
use Rattle.call_table.proofs.clause_at.push_clauses.Given as goal

-- the clauses so far
abbrev pub invariant-loop-clause : goal.invariant-loop-clause
invariant-loop-clause l = l.out.items ≡ l.fn.out.items ++ map (clause_at l.file l.node) (clause_trees l.names (take l.clause-index l.clauses))
