-- What may be wrong where a token or layout should begin.
use Rattle.std.specs.Prelude.{◌≡◌, ℕ, ◌+◌, ◌<◌, ◌≤◌, ◌⊎◌, List, length}
use Rattle.prolog_tokens.specs.declared.chars.Class.TheVariants.{Further, OrderMark, Other}
use Rattle.prolog_tokens.specs.declared.token.TokenFault.{TokenFault}
use Rattle.prolog_tokens.specs.declared.token.TokenFault.TheVariants.{BadChar, OpenQuote, OpenComment, BadEscape, NoMemory}
use Rattle.prolog_tokens.specs.Chars.{class_at}
use Rattle.prolog_tokens.specs.Quoted.{IsQuote, IsOpenQuote, IsBadEscape}
use Rattle.prolog_tokens.specs.Numbers.{IsBadCode}
use Rattle.prolog_tokens.specs.Layout.{IsOpener, IsCloser}

-- a character that begins no token and no layout
pub record IsBadChar (text : List ℕ) (s : ℕ) : Type 0 where
  pub within : s < length text
  pub begins_none : (class_at text s ≡ Other) ⊎ ((class_at text s ≡ Further) ⊎ ((class_at text s ≡ OrderMark) × (0 < s)))

-- `/*`, and no `*/` after it
pub record IsOpenComment (text : List ℕ) (s : ℕ) : Type 0 where
  pub opens : IsOpener text s
  pub unclosed : (k : ℕ) → s + 2 ≤ k → IsCloser text k → ⊥

-- what is wrong at s, told at the offset: a bad escape is told at its backslash, all else at s itself
abbrev pub IsWrong : List ℕ → ℕ → TokenFault → Type 0
IsWrong text s (BadChar at) = (at ≡ s) × IsBadChar text s
IsWrong text s (OpenQuote at) = (at ≡ s) × ((q : ℕ) × IsQuote q × IsOpenQuote text q s)
IsWrong text s (OpenComment at) = (at ≡ s) × IsOpenComment text s
IsWrong text s (BadEscape at) = ((q : ℕ) × IsQuote q × IsBadEscape text q s at) ⊎ IsBadCode text s at
IsWrong text s NoMemory = ⊥
