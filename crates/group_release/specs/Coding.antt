-- Lists of nodes as one list of numbers.
use Rattle.std.specs.Prelude.{ℕ, zero, suc, List, [], ◌∷◌, ◌++◌, map}

-- each node as one more, and a 0 behind each list
abbrev pub numbers_of : List (List ℕ) → List ℕ
numbers_of [] = []
numbers_of (xs ∷ rest) = map suc xs ++ 0 ∷ numbers_of rest

abbrev pub put_first : ℕ → List (List ℕ) → List (List ℕ)
put_first n [] = (n ∷ []) ∷ []
put_first n (xs ∷ rest) = (n ∷ xs) ∷ rest

-- the lists that the numbers stand for
abbrev pub lists_from : List ℕ → List (List ℕ)
lists_from [] = []
lists_from (zero ∷ ns) = [] ∷ lists_from ns
lists_from (suc n ∷ ns) = put_first n (lists_from ns)
