use Rattle.std.proofs.Common.{◌≡◌, take}
use Rattle.std.specs.List.{flat_map}
use Rattle.call_table.specs.Clauses.{clauses_in}
use Rattle.call_table.proofs.clause_at.clauses_from.Given as goal

-- the clauses of the predicates so far
abbrev pub invariant-loop-node : goal.invariant-loop-node
invariant-loop-node l = l.out.items ≡ flat_map (clauses_in l.program) (take l.node-index l.nodes)
