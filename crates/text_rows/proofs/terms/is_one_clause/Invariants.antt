use Rattle.std.proofs.Common.{◌≡◌, ℕ, ◌<◌, Some, slice_get}
use Rattle.std.specs.Prelude.{option_map}
use Rattle.prolog_tokens.specs.declared.token.Kind.TheVariants.{End}
use Rattle.text_rows.proofs.terms.is_one_clause.Given as goal

abbrev pub invariant-loop-k : goal.invariant-loop-k
invariant-loop-k l = (j : ℕ) → j < l.k → option_map (λ token. token.kind) (slice_get l.tokens j) ≡ Some End → ⊥
