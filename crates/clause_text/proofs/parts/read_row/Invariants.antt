use Rattle.std.proofs.Common.{◌-◌, ◌<◌, length}
use Rattle.prolog_ops.specs.Table.{ops_of}
use Rattle.clause_text.specs.Clauses.{clause_trees}
use Rattle.clause_text.specs.Pieces.{AreAdded, IsBehindClause}
use Rattle.clause_text.proofs.parts.read_row.Given as goal

abbrev pub invariant-loop-from : goal.invariant-loop-from
invariant-loop-from g l =
    AreAdded (ops_of l.fn.table) l.text l.tokens 0 (clause_trees l.numbered.names l.fn.clauses.items) (clause_trees l.numbered.names l.clauses.items) (ops_of l.table) l.from
    × (l.from < l.until → IsBehindClause l.tokens l.until)

abbrev pub decreases-loop-from : goal.decreases-loop-from
decreases-loop-from g l = length l.tokens - l.from
