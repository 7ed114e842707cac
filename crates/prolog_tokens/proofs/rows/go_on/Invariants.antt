use Rattle.std.proofs.Common.{◌<◌, length, ◌-◌, All}
use Rattle.prolog_tokens.specs.Rows.{IsBegin, GoesOn}
use Rattle.prolog_tokens.proofs.rows.go_on.Given as goal

abbrev pub invariant-loop-token : goal.invariant-loop-token
invariant-loop-token l = record {
  row : GoesOn l.text l.initial.row l.row;
  before : All (λ t. t.start < l.to) l.initial.row.tokens.items → All (λ t. t.start < l.to) l.row.tokens.items;
  begins : IsBegin l.text l.row.end;
}

abbrev pub decreases-loop-token : goal.decreases-loop-token
decreases-loop-token l = length l.text - l.row.end
