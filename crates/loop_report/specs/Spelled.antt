-- How names are written in the report.
use Rattle.std.specs.Prelude.{ℕ, ◌+◌, ◌/◌, ◌%◌, List, ◌∷◌, ◌++◌, ◌==◌, ◌||◌, nat_lt, chars, if◌then◌else◌, codes}
use Rattle.std.specs.Char.{encode_utf8}
use Rattle.std.specs.List.{flat_map}
use Rattle.prolog_tokens.specs.BareNames.{is_bare_name}

-- a small hexadecimal digit
abbrev pub hex_digit : ℕ → ℕ
hex_digit n = if nat_lt n 10 then 48 + n else 87 + n

-- a character between quotes: a quote, a backslash, a newline and other control characters as escapes, any other as it is
abbrev pub quoted_char : ℕ → List ℕ
quoted_char c =
    if c == 39 then codes "\\'"
    else if c == 92 then codes "\\\\"
    else if c == 10 then codes "\\n"
    else if nat_lt c 32 || (c == 127) then codes "\\x" ++ hex_digit (c / 16) ∷ hex_digit (c % 16) ∷ codes "\\"
    else encode_utf8 c

abbrev pub quoted_name : List ℕ → List ℕ
quoted_name name = codes "'" ++ (flat_map quoted_char (chars name) ++ codes "'")

-- a name as the report has it: as it is, or between quotes
unfoldable pub spelled_name : List ℕ → List ℕ
spelled_name name = if is_bare_name name then name else quoted_name name
