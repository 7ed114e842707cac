-- The first bytes of a name as one number.
use Rattle.std.specs.Prelude.{ℕ, List, [], ◌∷◌, slice_index}
use Rattle.std.specs.Int.{w64, from_be_bytes}

-- the first eight bytes, the first of them the highest; a byte past the end is 0
abbrev pub lead : List ℕ → ℕ
lead name =
    from_be_bytes w64
    (slice_index name 0 ∷ slice_index name 1 ∷ slice_index name 2 ∷ slice_index name 3 ∷ slice_index name 4 ∷ slice_index name 5 ∷ slice_index name 6
    ∷ slice_index name 7 ∷ [])
