use Rattle.prolog_tokens.specs.Places.{IsCounted}
use Rattle.prolog_tokens.proofs.places.advanced.Given as goal

abbrev pub invariant-loop-at : goal.invariant-loop-at
invariant-loop-at l = IsCounted l.bytes l.at l.line l.column
