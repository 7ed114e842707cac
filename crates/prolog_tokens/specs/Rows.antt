-- Rows of tokens that begin at several places of a text.
use Rattle.std.specs.Prelude.{◌≡◌, ◌≢◌, ℕ, ◌+◌, ◌<◌, ◌≤◌, ◌⊎◌, ⊤, List, [], ◌∷◌, ◌++◌, Option, Some, MatchOption, All, length, slice_get, slice_index, Vec}
use Rattle.std.specs.declared.alloc.Global.{Global}
use Rattle.std.specs.List.{flat_map}
use Rattle.prolog_tokens.specs.declared.chars.Class.TheVariants.{Inner}
use Rattle.prolog_tokens.specs.declared.token.Kind.TheVariants.{End}
use Rattle.prolog_tokens.specs.declared.token.Token.{Token}
use Rattle.prolog_tokens.specs.declared.token.TokenFault.{TokenFault}
use Rattle.prolog_tokens.specs.declared.rows.Span.{Span}
use Rattle.prolog_tokens.specs.declared.rows.TokenRow.{TokenRow}
use Rattle.prolog_tokens.specs.Chars.{class_at}
use Rattle.prolog_tokens.specs.Layout.{IsLayout}
use Rattle.prolog_tokens.specs.Cut.{IsNext, IsWrongNext, StandBetween}

-- a character begins at the place, or the text ends there
pub record IsBegin (text : List ℕ) (at : ℕ) : Type 0 where
  pub within : at ≤ length text
  pub begins : class_at text at ≢ Inner

abbrev pub IsSpan : List ℕ → Span → Type 0
IsSpan text span = IsBegin text span.from

-- the span begins where the text does, or with a newline
abbrev pub BeginsWithNewline : List ℕ → Span → Type 0
BeginsWithNewline text span = (span.from ≡ 0) ⊎ (slice_index text span.from ≡ 10)

-- the span has at least so many bytes, or is the last one of the text
abbrev pub HasBytes : ℕ → List ℕ → Span → Type 0
HasBytes least text span = (span.from + least ≤ span.to) ⊎ (span.to ≡ length text)

-- the spans stand side by side, none of them empty, from one place up to another
abbrev pub StandSideBySide : ℕ → List Span → ℕ → Type 0
StandSideBySide a [] b = a ≡ b
StandSideBySide a (span ∷ spans) b = ((a ≡ span.from) × (span.from < span.to)) × StandSideBySide span.to spans b

-- the row stands from a place on up to where it ends
abbrev pub StandsFrom : List ℕ → ℕ → TokenRow → Type 0
StandsFrom text a row = StandBetween text a row.tokens.items row.end

abbrev pub IsRow : List ℕ → TokenRow → Type 0
IsRow text row = (a : ℕ) × StandsFrom text a row

-- the second row has what the first one has, and goes on from there
abbrev pub GoesOn : List ℕ → TokenRow → TokenRow → Type 0
GoesOn text one other = (a : ℕ) → StandsFrom text a one → StandsFrom text a other

-- what stands next after the place: a token that starts no earlier than another place, or layout up to the end of the text
abbrev pub StandsNext : List ℕ → ℕ → ℕ → Option Token → Type 0
StandsNext text at to next = MatchOption next (IsLayout text at (length text)) (λ t. IsNext text at t × (to ≤ t.start))

-- where the row ends, no token stands next that starts before the place: it starts later, the text ends, or something is wrong there
abbrev pub IsOver : List ℕ → TokenRow → ℕ → Type 0
IsOver text row to = ((next : Option Token) × StandsNext text row.end to next) ⊎ ((fault : TokenFault) × IsWrongNext text row.end fault)

-- the row has all tokens that stand one after another from where the span begins and start before its end, up to what is wrong
pub record IsRowOf (text : List ℕ) (span : Span) (row : TokenRow) : Type 0 where
  pub stands : StandsFrom text span.from row
  pub before : All (λ t. t.start < span.to) row.tokens.items
  pub over : IsOver text row span.to

-- the other span begins after the first End of the tokens from where the span begins, and ends where it does
pub record BeginsAfterEnd (text : List ℕ) (span other : Span) : Type 0 where
  pub before : List Token
  pub last : Token
  pub stand : StandBetween text span.from (before ++ last ∷ []) other.from
  pub none : All (λ t. t.kind ≢ End) before
  pub ends : last.kind ≡ End
  pub start : last.start < span.to
  pub to : other.to ≡ span.to

-- the last of the tokens is an End, if there are any
abbrev pub EndsClause : List Token → Type 0
EndsClause ts = (k : ℕ) (t : Token) → slice_get ts k ≡ Some t → k + 1 ≡ length ts → t.kind ≡ End

-- no clause goes on from one row to the next
abbrev pub EachEndsClause : List (Vec Token Global) → Type 0
EachEndsClause [] = ⊤
EachEndsClause (row ∷ rows) = (EndsClause row.items ⊎ (rows ≡ [])) × EachEndsClause rows

-- the tokens of the rows, one row after another
abbrev pub tokens_of : List (Vec Token Global) → List Token
tokens_of rows = flat_map (λ row. row.items) rows
