-- How an item, a code or a number ends, as the scanner answers it.
use Rattle.std.specs.Prelude.{◌≡◌, ◌≢◌, ℕ, ◌+◌, List, Some, slice_index}
use Rattle.prolog_tokens.specs.declared.token.Kind.TheVariants.{Integer, Float}
use Rattle.prolog_tokens.specs.declared.quoted.QuotedEnd.{QuotedEnd}
use Rattle.prolog_tokens.specs.declared.quoted.QuotedEnd.TheVariants.{Closed, Open, BadEscape}
use Rattle.prolog_tokens.specs.declared.numbers.CodeEnd.{CodeEnd}
use Rattle.prolog_tokens.specs.declared.numbers.CodeEnd.TheVariants.{Found, Wrong, Absent}
use Rattle.prolog_tokens.specs.declared.numbers.NumberEnd.{NumberEnd}
use Rattle.prolog_tokens.specs.declared.numbers.NumberEnd.TheVariants.{Whole, Fraction, BadCode}
use Rattle.prolog_tokens.specs.Quoted.{IsPart, escape, IsQuoted, IsOpenQuote, IsBadEscape}
use Rattle.prolog_tokens.specs.Numbers.{Code, IsCode, IsBadCode}
use Rattle.prolog_tokens.specs.Spelling.{IsSpelled, NoToken}

abbrev pub QuotedEndIs : List ℕ → ℕ → ℕ → QuotedEnd → Type 0
QuotedEndIs text q a (Closed b) = IsQuoted text q a b
QuotedEndIs text q a Open = IsOpenQuote text q a
QuotedEndIs text q a (BadEscape p) = IsBadEscape text q a p

-- how the code behind `0'` goes on
abbrev pub CodeEndIs : List ℕ → ℕ → CodeEnd → Type 0
CodeEndIs text a (Found b) = (c : ℕ) × (how : Code) × IsCode text a c b how
CodeEndIs text a Wrong = (slice_index text a ≡ 92) × ((c b : ℕ) → IsPart text 39 a (escape (Some c)) b → ⊥)
CodeEndIs text a Absent = (slice_index text a ≢ 92) × ((c b : ℕ) (how : Code) → IsCode text a c b how → ⊥)

-- what the number is that begins at a
abbrev pub NumberEndIs : List ℕ → ℕ → NumberEnd → Type 0
NumberEndIs text a (Whole b) = IsSpelled text Integer a b
NumberEndIs text a (Fraction b) = IsSpelled text Float a b
NumberEndIs text a BadCode = IsBadCode text a (a + 2) × NoToken text a
