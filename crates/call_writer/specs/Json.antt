-- Strings and truth values of JSON (RFC 8259, sections 3 and 7).
use Rattle.std.specs.Prelude.{ℕ, ◌+◌, ◌/◌, ◌%◌, List, [], ◌∷◌, ◌++◌, Bool, true, false, ◌==◌, nat_lt, chars, if◌then◌else◌, codes}
use Rattle.std.specs.Char.{encode_utf8}
use Rattle.std.specs.List.{flat_map}

-- a small hexadecimal digit
abbrev pub hex_digit : ℕ → ℕ
hex_digit n = if nat_lt n 10 then 48 + n else 87 + n

-- a character in a string: a quote, a backslash and the control characters below U+0020 as escapes, any other as it is
abbrev pub json_char : ℕ → List ℕ
json_char c =
    if c == 34 then codes "\\\""
    else if c == 92 then codes "\\\\"
    else if nat_lt c 32 then codes "\\u00" ++ hex_digit (c / 16) ∷ hex_digit (c % 16) ∷ []
    else encode_utf8 c

-- a text as a string
abbrev pub json_string : List ℕ → List ℕ
json_string text = codes "\"" ++ (flat_map json_char (chars text) ++ codes "\"")

abbrev pub truth : Bool → List ℕ
truth true = codes "true"
truth false = codes "false"
