use Rattle.std.proofs.Common.{ℕ, All}
use Rattle.prolog_tokens.specs.Cut.{StandBetween}
use Rattle.prolog_tokens.specs.Rows.{IsBegin, IsRow, EndsClause, StandsFrom, tokens_of}
use Rattle.prolog_tokens.proofs.rows.clause_rows.Given as goal

abbrev pub invariant-loop-next : goal.invariant-loop-next
invariant-loop-next l = record {
  done : (place : ℕ) × StandBetween l.text 0 (tokens_of l.done.items) place × StandsFrom l.text place l.row;
  ends : All (λ row. EndsClause row.items) l.done.items;
  begins : IsBegin l.text l.row.end;
  rest : All (IsRow l.text) l.next-iterator.rest.items;
}
