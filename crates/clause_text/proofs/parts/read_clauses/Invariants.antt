use Rattle.std.proofs.Common.{◌≡◌}
use Rattle.prolog_ops.specs.Table.{ops_of}
use Rattle.clause_text.specs.Clauses.{clause_trees}
use Rattle.clause_text.proofs.RowClauses.{AreLeft, row_tokens}
use Rattle.clause_text.proofs.parts.read_clauses.Given as goal

abbrev pub invariant-loop-row : goal.invariant-loop-row
invariant-loop-row g l = record {
  names : l.names ≡ l.fn.numbered.names;
  left : AreLeft l.names l.text (row_tokens l.fn.numbered.rows.items) l.row-iterator.rest.items (ops_of l.table) (clause_trees l.names l.clauses.items);
}
