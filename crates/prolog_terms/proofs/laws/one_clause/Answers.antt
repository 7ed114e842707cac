use Rattle.prolog_terms.specs.Words.{table_of}
use Rattle.prolog_terms.proofs.ReaderTables.{table_is}
use Rattle.prolog_terms.proofs.ReaderComplete as complete
use Rattle.prolog_terms.proofs.laws.one_clause.Goals as goal

pub returns : goal.returns
returns c = λ ops is a b e f first second same. complete.one_clause (table_of ops) (table_is ops is) a b e f first second same
