use Rattle.std.proofs.Common.{◌≡◌}
use Rattle.prolog_ops.specs.Table.{ops_of}
use Rattle.clause_text.specs.Clauses.{clause_trees}
use Rattle.clause_text.proofs.LeadEnds.{AreKept}
use Rattle.clause_text.proofs.parts.keep.Given as goal

abbrev pub invariant-loop-piece : goal.invariant-loop-piece
invariant-loop-piece l =
    (ops_of l.table ≡ ops_of l.fn.table)
    × AreKept l.names (ops_of l.fn.table) l.fn.from l.fn.pieces.items (clause_trees l.names l.fn.clauses.items) l.piece-iterator.rest.items (clause_trees l.names l.clauses.items) l.to
