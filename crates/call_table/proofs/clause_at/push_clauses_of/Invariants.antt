use Rattle.std.proofs.Common.{◌≡◌, ◌++◌, take}
use Rattle.std.specs.List.{flat_map}
use Rattle.call_table.specs.Clauses.{clauses_there}
use Rattle.call_table.proofs.clause_at.push_clauses_of.Given as goal

-- the clauses at the places so far
abbrev pub invariant-loop-place : goal.invariant-loop-place
invariant-loop-place l =
    l.out.items ≡ l.fn.out.items ++ flat_map (clauses_there l.fn.program.loaded.files l.node) (take l.place-index l.place-items)
