-- Escape sequences (ISO/IEC 13211-1, 6.4.2.1).
use Rattle.std.specs.Prelude.{◌≡◌, ℕ, ◌+◌, ◌&&◌, ◌==◌, List, Option, Some, None, nat_le, if◌then◌else◌, slice_index}
use Rattle.std.specs.Char.{IsScalar}
use Rattle.prolog_tokens.specs.declared.escapes.Mark.{Mark}
use Rattle.prolog_tokens.specs.declared.escapes.Mark.TheVariants.{Letter, Octal, Hex, Newline, Nothing}
use Rattle.prolog_tokens.specs.Digits.{Writes}

-- what the byte behind a backslash says: that the escape is one character, or how it goes on
abbrev pub mark_of : ℕ → Mark
mark_of b =
    if b == 97 then Letter 7
    else (if b == 98 then Letter 8
    else (if b == 102 then Letter 12
    else (if b == 110 then Letter 10
    else (if b == 114 then Letter 13
    else (if b == 116 then Letter 9
    else (if b == 118 then Letter 11
    else (if b == 92 then Letter 92
    else (if b == 39 then Letter 39
    else (if b == 34 then Letter 34
    else (if b == 96 then Letter 96
    else (if nat_le 48 b && nat_le b 55 then Octal
    else (if b == 120 then Hex
    else (if b == 10 then Newline
    else Nothing)))))))))))))

-- digits of the base from one place on and a backslash: the number of a character
pub record IsCoded (base : ℕ) (text : List ℕ) (a : ℕ) (c : Option ℕ) (b : ℕ) : Type 0 where
  pub close : ℕ
  pub number : ℕ
  pub writes : Writes base text a close number
  pub backslash : slice_index text close ≡ 92
  pub ends : b ≡ close + 1
  pub is : c ≡ Some number
  pub scalar : IsScalar number

-- an escape of this mark whose backslash stands at a: the character that it means, if any, and where it ends
abbrev pub EscapeBy : List ℕ → ℕ → Option ℕ → ℕ → Mark → Type 0
EscapeBy text a c b (Letter v) = (c ≡ Some v) × (b ≡ a + 2)
EscapeBy text a c b Newline = (c ≡ None) × (b ≡ a + 2)
EscapeBy text a c b Octal = IsCoded 8 text (a + 1) c b
EscapeBy text a c b Hex = IsCoded 16 text (a + 2) c b
EscapeBy text a c b Nothing = ⊥

-- an escape sequence from the backslash at a up to b, and what it means
pub record IsEscape (text : List ℕ) (a : ℕ) (c : Option ℕ) (b : ℕ) : Type 0 where
  pub backslash : slice_index text a ≡ 92
  pub by : EscapeBy text a c b (mark_of (slice_index text (a + 1)))
