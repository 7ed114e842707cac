-- Places in a text by lines and characters.
use Rattle.std.specs.Prelude.{◌≡◌, ◌≢◌, ℕ, ◌+◌, ◌-◌, ◌<◌, ◌≤◌, ◌⊎◌, ◌==◌, ◌||◌, Bool, nat_lt, nat_le, List, [], ◌∷◌, Option, Some, None, length, take, chars}
use Rattle.std.specs.Prelude.{count_by, slice_index, slice_range, IsUtf8, ⊤}
use Rattle.prolog_tokens.specs.declared.token.Place.{Place}
use Rattle.prolog_tokens.specs.declared.token.TokenFault.{TokenFault}
use Rattle.prolog_tokens.specs.declared.token.TokenFault.TheVariants.{BadChar, OpenQuote, OpenComment, BadEscape, NoMemory}

-- whole characters stand before the offset
pub record IsOffset (bytes : List ℕ) (at : ℕ) : Type 0 where
  pub within : at ≤ length bytes
  pub utf8 : IsUtf8 (take at bytes)

-- the line of the offset begins at the place: at the beginning of the text, or directly behind the last newline before the offset
pub record BeginsLine (bytes : List ℕ) (from at : ℕ) : Type 0 where
  pub before : from ≤ at
  pub begins : (from ≡ 0) ⊎ ((0 < from) × (slice_index bytes (from - 1) ≡ 10))
  pub none : (k : ℕ) → from ≤ k → k < at → slice_index bytes k ≢ 10

-- the line is one more than the newlines before the offset, the column one more than the characters between its line's beginning and it
pub record IsPlace (bytes : List ℕ) (at : ℕ) (place : Place) : Type 0 where
  pub from : ℕ
  pub begins : BeginsLine bytes from at
  pub line : place.line ≡ count_by (λ b. b == 10) (take at bytes) + 1
  pub column : place.column ≡ length (chars (slice_range bytes from at)) + 1

-- the offset that a fault tells
abbrev pub fault_offset : TokenFault → Option ℕ
fault_offset (BadChar at) = Some at
fault_offset (OpenQuote at) = Some at
fault_offset (OpenComment at) = Some at
fault_offset (BadEscape at) = Some at
fault_offset NoMemory = None

-- a byte with which a character begins
abbrev pub begins_character : ℕ → Bool
begins_character b = nat_lt b 128 || nat_le 192 b

-- a line and a column by the bytes before the offset, which may stand within a character
pub record IsCounted (bytes : List ℕ) (at line column : ℕ) : Type 0 where
  pub from : ℕ
  pub begins : BeginsLine bytes from at
  pub line_is : line ≡ count_by (λ b. b == 10) (take at bytes) + 1
  pub column_is : column ≡ count_by begins_character (slice_range bytes from at) + 1

-- each offset has its place
abbrev pub ArePlaces : List ℕ → List ℕ → List Place → Type 0
ArePlaces bytes [] [] = ⊤
ArePlaces bytes [] (place ∷ places) = ⊥
ArePlaces bytes (at ∷ offsets) [] = ⊥
ArePlaces bytes (at ∷ offsets) (place ∷ places) = IsPlace bytes at place × ArePlaces bytes offsets places

-- no offset is less than one before it
abbrev pub IsAscending : List ℕ → Type 0
IsAscending offsets = (j k : ℕ) → j ≤ k → k < length offsets → slice_index offsets j ≤ slice_index offsets k
