-- The spellings of the kinds of tokens (ISO/IEC 13211-1, 6.4).
use Rattle.std.specs.Prelude.{◌≡◌, ◌≢◌, ℕ, ◌+◌, ◌<◌, ◌≤◌, ◌⊎◌, List, length, true, false, slice_index}
use Rattle.prolog_tokens.specs.declared.chars.Class.{Class}
use Rattle.prolog_tokens.specs.declared.chars.Class.TheVariants.{White, Small, Capital, RoundOpen, RoundClose, SquareOpen, SquareClose, CurlyOpen, CurlyClose}
use Rattle.prolog_tokens.specs.declared.chars.Class.TheVariants.{CommaSign, BarSign, Percent, Solo, Inner}
use Rattle.prolog_tokens.specs.declared.token.Kind.{Kind}
use Rattle.prolog_tokens.specs.declared.token.Kind.TheVariants.{Name, Quoted, Variable, Integer, Float, Str, BackStr, OpenRound, CloseRound, OpenSquare}
use Rattle.prolog_tokens.specs.declared.token.Kind.TheVariants.{CloseSquare, OpenCurly, CloseCurly, Comma, Bar, End}
use Rattle.prolog_tokens.specs.Chars.{class_at, continues, is_graphic}
use Rattle.prolog_tokens.specs.Quoted.{IsQuoted}
use Rattle.prolog_tokens.specs.Numbers.{IsInteger, IsFloat}
use Rattle.prolog_tokens.specs.Layout.{IsOpener, IsHashBang}

-- a character of this class and characters that go on a word
pub record IsWord (first : Class) (text : List ℕ) (a b : ℕ) : Type 0 where
  pub begins : class_at text a ≡ first
  pub some : a < b
  pub within : b ≤ length text
  pub goes_on : (k : ℕ) → a < k → k < b → continues (class_at text k) ≡ true
  pub ends : class_at text b ≢ Inner

-- the longest run of graphic characters from a
pub record IsRun (text : List ℕ) (a b : ℕ) : Type 0 where
  pub some : a < b
  pub within : b ≤ length text
  pub graphic : (k : ℕ) → a ≤ k → k < b → is_graphic (class_at text k) ≡ true
  pub longest : is_graphic (class_at text b) ≡ false

-- an end token: a run that is just `.`, where white space, `%` or the end of the text follows
pub record IsEnd (text : List ℕ) (a b : ℕ) : Type 0 where
  pub run : IsRun text a b
  pub dot : slice_index text a ≡ 46
  pub one : b ≡ a + 1
  pub follows : (b ≡ length text) ⊎ ((class_at text b ≡ White) ⊎ (class_at text b ≡ Percent))

-- a graphic token: a run that is neither the beginning of a comment, nor an end token, nor that of a first line with `#!`
pub record IsGraphicName (text : List ℕ) (a b : ℕ) : Type 0 where
  pub run : IsRun text a b
  pub no_comment : IsOpener text a → ⊥
  pub no_end : IsEnd text a b → ⊥
  pub no_hash_bang : IsHashBang text a → ⊥

-- one character of this class, as a solo character or a bracket
pub record IsSign (class : Class) (text : List ℕ) (a b : ℕ) : Type 0 where
  pub is : class_at text a ≡ class
  pub one : b ≡ a + 1

-- the bytes from a to b write some integer
abbrev pub IsIntegerWord : List ℕ → ℕ → ℕ → Type 0
IsIntegerWord text a b = (n : ℕ) × IsInteger text a n b

-- the bytes from a to b spell a token of the kind
abbrev pub Spells : List ℕ → ℕ → ℕ → Kind → Type 0
Spells text a b Name = IsWord Small text a b ⊎ (IsGraphicName text a b ⊎ IsSign Solo text a b)
Spells text a b Quoted = IsQuoted text 39 a b
Spells text a b Variable = IsWord Capital text a b
Spells text a b Integer = IsIntegerWord text a b
Spells text a b Float = IsFloat text a b
Spells text a b Str = IsQuoted text 34 a b
Spells text a b BackStr = IsQuoted text 96 a b
Spells text a b OpenRound = IsSign RoundOpen text a b
Spells text a b CloseRound = IsSign RoundClose text a b
Spells text a b OpenSquare = IsSign SquareOpen text a b
Spells text a b CloseSquare = IsSign SquareClose text a b
Spells text a b OpenCurly = IsSign CurlyOpen text a b
Spells text a b CloseCurly = IsSign CurlyClose text a b
Spells text a b Comma = IsSign CommaSign text a b
Spells text a b Bar = IsSign BarSign text a b
Spells text a b End = IsEnd text a b

-- and it is the longest token that can be taken there
pub record IsSpelled (text : List ℕ) (kind : Kind) (a b : ℕ) : Type 0 where
  pub spells : Spells text a b kind
  pub longest : (k : Kind) (e : ℕ) → Spells text a e k → e ≤ b

-- no token begins at the place
abbrev pub NoToken : List ℕ → ℕ → Type 0
NoToken text a = (k : Kind) (b : ℕ) → Spells text a b k → ⊥
