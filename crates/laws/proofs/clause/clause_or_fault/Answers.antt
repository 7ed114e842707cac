use Rattle.prolog_terms.specs.Words.{table_of}
use Rattle.prolog_terms.proofs.ReaderTables.{table_is}
use Rattle.laws.proofs.NextWords.{token_spelled}
use Rattle.laws.proofs.AnsweredClause.{answered}
use Rattle.laws.proofs.clause.clause_or_fault.Goals as goal

pub returns : goal.returns
returns c = λ ops is text ts part. answered (table_of ops) (table_is ops is) text ts (token_spelled text ts part)
