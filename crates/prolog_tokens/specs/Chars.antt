-- What each character is to the tokens (ISO/IEC 13211-1, 6.5).
use Rattle.std.specs.Prelude.{ℕ, List, Bool, true, false, ◌==◌, ◌&&◌, ◌||◌, nat_le, nat_lt, if◌then◌else◌, slice_index, drop, chars, codes}
use Rattle.std.specs.Char.{is_whitespace}
use Rattle.std.specs.List.{list_any}
use Rattle.unicode.specs.Binary.{is_xid_start, is_xid_continue}
use Rattle.ucd_category.specs.GeneralCategory.{general_category}
use Rattle.ucd_category.specs.declared.GeneralCategory.{GeneralCategory}
use Rattle.ucd_category.specs.declared.GeneralCategory.TheVariants.{UppercaseLetter, TitlecaseLetter}
use Rattle.prolog_tokens.specs.declared.chars.Class.{Class}
use Rattle.prolog_tokens.specs.declared.chars.Class.TheVariants.{White, Small, Capital, Digit, SingleQuote, DoubleQuote, BackQuote, RoundOpen, RoundClose}
use Rattle.prolog_tokens.specs.declared.chars.Class.TheVariants.{SquareOpen, SquareClose, CurlyOpen, CurlyClose, CommaSign, BarSign, Percent, Dot, Slash, Solo}
use Rattle.prolog_tokens.specs.declared.chars.Class.TheVariants.{Graphic, Further, OrderMark, Inner, Other}

abbrev pub ascii_class : ℕ → Class
ascii_class b =
    if (nat_le 9 b && nat_le b 13) || (b == 32) then White
    else (if nat_le 97 b && nat_le b 122 then Small
    else (if (nat_le 65 b && nat_le b 90) || (b == 95) then Capital
    else (if nat_le 48 b && nat_le b 57 then Digit
    else (if b == 39 then SingleQuote
    else (if b == 34 then DoubleQuote
    else (if b == 96 then BackQuote
    else (if b == 40 then RoundOpen
    else (if b == 41 then RoundClose
    else (if b == 91 then SquareOpen
    else (if b == 93 then SquareClose
    else (if b == 123 then CurlyOpen
    else (if b == 125 then CurlyClose
    else (if b == 44 then CommaSign
    else (if b == 124 then BarSign
    else (if b == 37 then Percent
    else (if b == 46 then Dot
    else (if b == 47 then Slash
    else (if (b == 33) || (b == 59) then Solo
    else (if list_any (λ c. c == b) (codes "#$&*+-:<=>?@^~\\") then Graphic
    else Other)))))))))))))))))))

-- a letter past ASCII is a capital where its category is uppercase or titlecase
abbrev pub letter_class : GeneralCategory → Class
letter_class UppercaseLetter = Capital
letter_class TitlecaseLetter = Capital
letter_class _ = Small

abbrev pub past_ascii : ℕ → Class
past_ascii c =
    if is_whitespace c then White
    else (if c == 0xFEFF then OrderMark
    else (if is_xid_start c then letter_class (general_category c)
    else (if is_xid_continue c then Further
    else Other)))

-- the character whose first byte stands at a place
abbrev pub code_at : List ℕ → ℕ → ℕ
code_at text k = slice_index (chars (drop k text)) 0

-- the class of the character that begins at a place; the further bytes of a character are Inner
abbrev pub class_at : List ℕ → ℕ → Class
class_at text k =
    if nat_lt (slice_index text k) 128 then ascii_class (slice_index text k)
    else (if nat_lt (slice_index text k) 192 then Inner
    else past_ascii (code_at text k))

-- what goes on a word, with all bytes of its characters
abbrev pub continues : Class → Bool
continues Small = true
continues Capital = true
continues Digit = true
continues Further = true
continues Inner = true
continues _ = false

-- what graphic tokens are made of
abbrev pub is_graphic : Class → Bool
is_graphic Dot = true
is_graphic Slash = true
is_graphic Graphic = true
is_graphic _ = false
