-- Names and lists in JSON (RFC 8259).
use Rattle.std.specs.Prelude.{ℕ, ◌+◌, ◌/◌, ◌%◌, List, [], ◌∷◌, ◌++◌, ◌==◌, nat_lt, if◌then◌else◌, codes}
use Rattle.std.specs.Fmt.{decimal}
use Rattle.std.specs.List.{flat_map}
use Rattle.std.specs.Str.{is_utf8}

-- a small hexadecimal digit
abbrev pub hex_digit : ℕ → ℕ
hex_digit n = if nat_lt n 10 then 48 + n else 87 + n

-- a byte in a string: a quote, a backslash and the control characters below U+0020 as escapes, any other as it is
abbrev pub json_byte : ℕ → List ℕ
json_byte b =
    if b == 34 then codes "\\\""
    else if b == 92 then codes "\\\\"
    else if nat_lt b 32 then codes "\\u00" ++ hex_digit (b / 16) ∷ hex_digit (b % 16) ∷ []
    else b ∷ []

-- a text as a string
abbrev pub json_string : List ℕ → List ℕ
json_string text = codes "\"" ++ (flat_map json_byte text ++ codes "\"")

-- one thing, and each other behind a comma
abbrev pub with_commas : {X : Type 0} → (X → List ℕ) → List X → List ℕ
with_commas shown [] = []
with_commas shown (x ∷ xs) = shown x ++ flat_map (λ y. codes "," ++ shown y) xs

abbrev pub json_list : {X : Type 0} → (X → List ℕ) → List X → List ℕ
json_list shown xs = codes "[" ++ (with_commas shown xs ++ codes "]")

-- a name as a string; if it isn't UTF-8, the list of its bytes as numbers
abbrev pub json_name : List ℕ → List ℕ
json_name name = if is_utf8 name then json_string name else json_list decimal name
