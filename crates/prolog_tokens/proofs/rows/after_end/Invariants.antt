use Rattle.std.proofs.Common.{◌≢◌, ◌-◌, List, All, length}
use Rattle.prolog_tokens.specs.declared.token.Kind.TheVariants.{End}
use Rattle.prolog_tokens.specs.declared.token.Token.{Token}
use Rattle.prolog_tokens.specs.Cut.{StandBetween}
use Rattle.prolog_tokens.specs.Rows.{IsBegin}
use Rattle.prolog_tokens.proofs.rows.after_end.Given as goal

abbrev pub invariant-loop-token : goal.invariant-loop-token
invariant-loop-token l = record {
  before : (ts : List Token) × StandBetween l.text l.span.from ts l.at × All (λ t. t.kind ≢ End) ts;
  begins : IsBegin l.text l.at;
}

abbrev pub decreases-loop-token : goal.decreases-loop-token
decreases-loop-token l = length l.text - l.at
