-- The text of a made program: blocks of ten predicates that call each other in a ring, and each block but the first calls one before it.
use Rattle.std.specs.Prelude.{ℕ, ◌+◌, ◌-◌, ◌*◌, ◌/◌, ◌%◌, ◌==◌, ◌&&◌, nat_lt, nat_le, List, [], ◌∷◌, ◌++◌, if◌then◌else◌, codes, flat_map}
use Rattle.std.specs.List.{range_with_len}
use Rattle.std.specs.Fmt.{decimal}

-- the predicate of a number
abbrev pub name_at : ℕ → List ℕ
name_at i = codes "p" ++ decimal i

-- the last of a block calls the block's first one, and any other the next one, where there is one
abbrev pub in_block : ℕ → ℕ → List ℕ
in_block count i = if (i % 10) == 9 then (i - 9) ∷ [] else if nat_lt (i + 1) count then (i + 1) ∷ [] else []

-- the first of a block calls the first of the block with half the number
abbrev pub out_of_block : ℕ → List ℕ
out_of_block i = if ((i % 10) == 0) && nat_le 10 i then (10 * ((i / 10 - 1) / 2)) ∷ [] else []

abbrev pub calls : ℕ → ℕ → List ℕ
calls count i = in_block count i ++ out_of_block i

abbrev pub body : List ℕ → List ℕ
body [] = []
body (p ∷ []) = codes " :- " ++ name_at p
body (p ∷ q ∷ more) = codes " :- " ++ name_at p ++ codes ", " ++ name_at q

abbrev pub line : ℕ → ℕ → List ℕ
line count i = name_at i ++ body (calls count i) ++ codes ".\n"

-- the text of so many predicates, a line for each in order
abbrev pub made_text : ℕ → List ℕ
made_text count = flat_map (line count) (range_with_len 0 count)
