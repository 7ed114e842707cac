use Rattle.std.proofs.Common.{subst}
use Rattle.prolog_ops.specs.Table.{IsOps, ops_of}
use Rattle.prolog_ops.proofs.table.OpTable.prefix.Goals as goal

pub returns-clause-table : goal.returns-clause-table
returns-clause-table c = subst (λ lists. IsOps (ops_of lists)) c.self.view_is c.self.invariant.is
