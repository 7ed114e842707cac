-- The names of a text, each with a number: its place among them.
use Rattle.std.specs.Prelude.{◌≡◌, ℕ, ◌<◌, ◌++◌, List, [], ◌∷◌, length, codes, slice_index_or}

-- the name that a number means: none for a number that is no name's
abbrev pub name_at : List (List ℕ) → ℕ → List ℕ
name_at names number = slice_index_or names number []

-- no name stands at two places
abbrev pub AreDistinct : List (List ℕ) → Type 0
AreDistinct names = (a b : ℕ) → a < length names → b < length names → name_at names a ≡ name_at names b → a ≡ b

-- the names that the reader asks for; the first is the empty one
abbrev pub asked_names : List (List ℕ)
asked_names = [] ∷ codes "," ∷ codes "|" ∷ codes "[]" ∷ codes "{}" ∷ codes "-" ∷ []

-- the names of the operators that a text begins with, but for those among the names asked for: of those that stand before operands alone
abbrev pub prefix_names : List (List ℕ)
prefix_names =
    codes "?-" ∷ codes "dynamic" ∷ codes "discontiguous" ∷ codes "multifile" ∷ codes "meta_predicate" ∷ codes "mode" ∷ codes "public"
    ∷ codes "initialization" ∷ codes "table" ∷ codes "\\+" ∷ codes "\\" ∷ []

-- and of those that stand between operands, the first two also before one
abbrev pub infix_names : List (List ℕ)
infix_names =
    codes ":-" ∷ codes "+" ∷ codes "-->" ∷ codes ";" ∷ codes "->" ∷ codes "=" ∷ codes "\\=" ∷ codes "==" ∷ codes "\\==" ∷ codes "@<"
    ∷ codes "@=<" ∷ codes "@>" ∷ codes "@>=" ∷ codes "=.." ∷ codes "is" ∷ codes "=:=" ∷ codes "=\\=" ∷ codes "<" ∷ codes "=<" ∷ codes ">"
    ∷ codes ">=" ∷ codes "/\\" ∷ codes "\\/" ∷ codes "*" ∷ codes "/" ∷ codes "//" ∷ codes "rem" ∷ codes "mod" ∷ codes "div" ∷ codes "<<"
    ∷ codes ">>" ∷ codes "**" ∷ codes "^" ∷ codes ":" ∷ []

-- the names that aren't operators and that those who read terms ask for: that of the module that all others stand in
abbrev pub module_names : List (List ℕ)
module_names = codes "user" ∷ []

-- the names that those who read terms ask for
abbrev pub opening_names : List (List ℕ)
opening_names = asked_names ++ prefix_names ++ infix_names ++ module_names

-- the names of the predicates that take goals, except those among the operators, and the cut
abbrev pub goal_names : List (List ℕ)
goal_names =
    codes "call" ∷ codes "maplist" ∷ codes "once" ∷ codes "ignore" ∷ codes "not" ∷ codes "forall" ∷ codes "phrase" ∷ codes "findall"
    ∷ codes "bagof" ∷ codes "setof" ∷ codes "catch" ∷ codes "!" ∷ []

-- the names that each table begins with
abbrev pub known_names : List (List ℕ)
known_names = opening_names ++ goal_names

-- the table begins with them
abbrev pub IsOpened : List (List ℕ) → Type 0
IsOpened names = (rest : List (List ℕ)) × (names ≡ known_names ++ rest)
