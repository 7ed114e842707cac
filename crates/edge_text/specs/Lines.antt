-- The lines of a text, and the words of a line.
use Rattle.std.specs.Prelude.{ℕ, Bool, true, false, ◌||◌, List, [], ◌∷◌, nat_eq, if◌then◌else◌}
use Rattle.std.specs.List.{filter, slice_split}

abbrev pub is_newline : ℕ → Bool
is_newline byte = nat_eq byte 10

-- a blank, a tab, a vertical tab, a form feed or a carriage return
abbrev pub is_separator : ℕ → Bool
is_separator byte = nat_eq byte 32 || nat_eq byte 9 || nat_eq byte 11 || nat_eq byte 12 || nat_eq byte 13

-- the lines of a text: the parts between its newlines
abbrev pub lines_of : List ℕ → List (List ℕ)
lines_of text = slice_split is_newline text

abbrev pub is_filled : List ℕ → Bool
is_filled [] = false
is_filled (byte ∷ bytes) = true

-- the words of a line: the parts between its separators that aren't empty
abbrev pub words_of : List ℕ → List (List ℕ)
words_of line = filter is_filled (slice_split is_separator line)

-- a comment begins with a number sign
abbrev pub is_comment : List ℕ → Bool
is_comment [] = false
is_comment (byte ∷ bytes) = nat_eq byte 35

-- what a line says: its words, and nothing if it is a comment
abbrev pub said_by : List ℕ → List (List ℕ)
said_by line = if is_comment line then [] else words_of line
