-- The names that are written as they are, without quotes.
use Rattle.std.specs.Prelude.{ℕ, List, [], ◌∷◌, Bool, true, false, not, ◌&&◌, ◌||◌, ◌==◌, nat_eq, length, codes}
use Rattle.std.specs.List.{list_all, list_any, range_with_len, starts_with}
use Rattle.std.specs.Str.{bytes_eq}
use Rattle.prolog_tokens.specs.declared.chars.Class.{Class}
use Rattle.prolog_tokens.specs.declared.chars.Class.TheVariants.{Small}
use Rattle.prolog_tokens.specs.Chars.{class_at, continues, is_graphic}

abbrev pub is_small : Class → Bool
is_small Small = true
is_small _ = false

-- the test holds of the class at each place of a text
abbrev pub all_are : (Class → Bool) → List ℕ → Bool
all_are test text = list_all (λ at. test (class_at text at)) (range_with_len 0 (length text))

-- a name start, then what goes on a word
abbrev pub is_letter_name : List ℕ → Bool
is_letter_name name = is_small (class_at name 0) && all_are continues name

-- one or more graphic characters that are no End and don't begin a comment
abbrev pub is_graphic_name : List ℕ → Bool
is_graphic_name name =
    not (length name == 0) && (not (starts_with nat_eq name (codes "/*")) && (not (bytes_eq name (codes ".")) && all_are is_graphic name))

-- the names that are signs
abbrev pub sign_names : List (List ℕ)
sign_names = codes "!" ∷ codes ";" ∷ codes "[]" ∷ codes "{}" ∷ []

abbrev pub is_bare_name : List ℕ → Bool
is_bare_name name = is_letter_name name || (is_graphic_name name || list_any (λ sign. bytes_eq sign name) sign_names)
