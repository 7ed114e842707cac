-- Layout (ISO/IEC 13211-1, 6.4.1): white space, comments, and what may open a text.
use Rattle.std.specs.Prelude.{◌≡◌, ◌≢◌, ℕ, ◌+◌, ◌<◌, ◌≤◌, ◌⊎◌, List, [], ◌∷◌, length, slice_index}
use Rattle.prolog_tokens.specs.declared.chars.Class.TheVariants.{White, Percent, OrderMark}
use Rattle.prolog_tokens.specs.Chars.{class_at}
use Rattle.prolog_tokens.specs.Numbers.{IsChar}

-- from a up to the next newline, or to the end of the text
pub record GoesToNewline (text : List ℕ) (a b : ℕ) : Type 0 where
  pub from : a ≤ b
  pub within : b ≤ length text
  pub none : (k : ℕ) → a ≤ k → k < b → slice_index text k ≢ 10
  pub stops : (b ≡ length text) ⊎ (slice_index text b ≡ 10)

-- `/*` stands at a place
pub record IsOpener (text : List ℕ) (a : ℕ) : Type 0 where
  pub slash : slice_index text a ≡ 47
  pub star : slice_index text (a + 1) ≡ 42

-- `*/` stands at a place
pub record IsCloser (text : List ℕ) (a : ℕ) : Type 0 where
  pub star : slice_index text a ≡ 42
  pub slash : slice_index text (a + 1) ≡ 47

-- a bracketed comment: from `/*` to the first `*/` after it
pub record IsBracketed (text : List ℕ) (a b : ℕ) : Type 0 where
  pub opens : IsOpener text a
  pub close : ℕ
  pub after : a + 2 ≤ close
  pub closes : IsCloser text close
  pub first : (k : ℕ) → a + 2 ≤ k → k < close → IsCloser text k → ⊥
  pub ends : b ≡ close + 2

-- U+FEFF as the first character, up to b
pub record IsOrderMark (text : List ℕ) (b : ℕ) : Type 0 where
  pub is : class_at text 0 ≡ OrderMark
  pub char : IsChar text 0 b

-- `#!` where it stands first or directly after that U+FEFF
pub record IsHashBang (text : List ℕ) (a : ℕ) : Type 0 where
  pub first : (a ≡ 0) ⊎ IsOrderMark text a
  pub hash : slice_index text a ≡ 35
  pub bang : slice_index text (a + 1) ≡ 33

-- the kinds of layout: a white character, two comments, U+FEFF, a line that begins with `#!`
pub data Sort : Type 0 where
  white : Sort
  line : Sort
  bracketed : Sort
  mark : Sort
  hash_bang : Sort

-- one piece of layout from a to b
abbrev pub IsPiece : List ℕ → ℕ → ℕ → Sort → Type 0
IsPiece text a b white = (class_at text a ≡ White) × IsChar text a b
IsPiece text a b line = (class_at text a ≡ Percent) × GoesToNewline text a b
IsPiece text a b bracketed = IsBracketed text a b
IsPiece text a b mark = (a ≡ 0) × IsOrderMark text b
IsPiece text a b hash_bang = IsHashBang text a × GoesToNewline text a b

abbrev pub EndsPiece : List ℕ → ℕ → ℕ → Type 0
EndsPiece text a b = (sort : Sort) × IsPiece text a b sort

-- pieces one after another, from one place up to another
abbrev pub ArePieces : List ℕ → ℕ → List Sort → ℕ → Type 0
ArePieces text a [] b = a ≡ b
ArePieces text a (s ∷ ss) b = (m : ℕ) × IsPiece text a m s × ArePieces text m ss b

-- layout alone, from a up to b
pub record IsLayout (text : List ℕ) (a b : ℕ) : Type 0 where
  pub pieces : List Sort
  pub are : ArePieces text a pieces b

-- no layout begins at the place
abbrev pub NoPiece : List ℕ → ℕ → Type 0
NoPiece text a = (s : Sort) (b : ℕ) → IsPiece text a b s → ⊥
