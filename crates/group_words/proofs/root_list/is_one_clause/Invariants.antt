use Rattle.std.proofs.Common.{◌≢◌, ℕ, ◌<◌, Some}
use Rattle.prolog_tokens.specs.declared.token.Kind.TheVariants.{End}
use Rattle.clause_text.specs.Clauses.{kind_there}
use Rattle.group_words.proofs.root_list.is_one_clause.Given as goal

abbrev pub invariant-loop-at : goal.invariant-loop-at
invariant-loop-at l = (k : ℕ) → k < l.at → kind_there l.tokens k ≢ Some End
