use Rattle.std.proofs.Common.{◌≡◌, length, take}
use Rattle.prolog_tokens.specs.Rows.{tokens_of}
use Rattle.prolog_names.proofs.numbers.count_tokens.Given as goal

abbrev pub invariant-loop-row : goal.invariant-loop-row
invariant-loop-row l = l.count ≡ length (tokens_of (take l.row-index l.rows))
