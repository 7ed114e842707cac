use Rattle.std.proofs.Common.{take}
use Rattle.prolog_ops.specs.Table.{ops_of}
use Rattle.prolog_terms.specs.Words.{table_of}
use Rattle.prolog_terms.specs.StackSeen.{see_reader}
use Rattle.prolog_terms.proofs.ReadClause.{HasRead}
use Rattle.prolog_terms.proofs.reader.read_nodes.Given as goal

abbrev pub invariant-loop-at : goal.invariant-loop-at
invariant-loop-at l = HasRead (table_of (ops_of l.table)) l.text (take l.at l.tokens) (see_reader l.names l.reader)
