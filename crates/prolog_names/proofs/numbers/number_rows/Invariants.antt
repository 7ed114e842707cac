use Rattle.std.proofs.Common.{◌≡◌, ◌+◌, ◌*◌, ◌≤◌, ◌++◌, ℕ, All, length}
use Rattle.prolog_tokens.specs.Cut.{StandBetween}
use Rattle.prolog_tokens.specs.Rows.{tokens_of}
use Rattle.prolog_names.specs.Names.{IsOpened, known_names}
use Rattle.prolog_names.specs.Numbers.{IsNumberedRow, token_rows}
use Rattle.prolog_names.specs.Table.{bytes_of}
use Rattle.prolog_names.proofs.numbers.number_rows.Given as goal

-- the rows so far are numbered, and the tokens of the others stand from a place on
abbrev pub invariant-loop-tokens : goal.invariant-loop-tokens
invariant-loop-tokens l = record {
  rows : token_rows l.done.items ++ l.tokens-iterator.rest.items ≡ l.fn.rows.items;
  numbered : All (IsNumberedRow l.text l.table) l.done.items;
  opened : IsOpened l.table;
  room : length l.table ≤ length (tokens_of (token_rows l.done.items)) + 64;
  stand : (from to : ℕ) × StandBetween l.text from (tokens_of l.tokens-iterator.rest.items) to × (to ≤ length l.text)
      × (bytes_of l.table ≤ 4 * from + bytes_of known_names);
}
