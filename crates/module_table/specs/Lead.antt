-- The first bytes of a text as one number.
use Rattle.std.specs.Prelude.{ℕ, List, [], ◌∷◌, slice_index_or}
use Rattle.std.specs.Int.{w64, from_be_bytes}

-- the byte at a place, or 0 behind the last one
abbrev pub byte_in : List ℕ → ℕ → ℕ
byte_in text place = slice_index_or text place 0

abbrev pub lead : List ℕ → ℕ
lead text =
    from_be_bytes w64
    (byte_in text 0 ∷ byte_in text 1 ∷ byte_in text 2 ∷ byte_in text 3 ∷ byte_in text 4 ∷ byte_in text 5 ∷ byte_in text 6 ∷ byte_in text 7 ∷ [])
