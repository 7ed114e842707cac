-- Which of two lists of nodes is less.
use Rattle.std.specs.Prelude.{◌≡◌, ℕ, ◌<◌, ◌⊎◌, List, [], ◌∷◌, length}

-- at the first place where they differ, the first list has the lesser node
abbrev pub ComesFirst : List ℕ → List ℕ → Type 0
ComesFirst [] ys = ⊥
ComesFirst (x ∷ xs) [] = ⊥
ComesFirst (x ∷ xs) (y ∷ ys) = (x < y) ⊎ ((x ≡ y) × ComesFirst xs ys)

-- it is shorter; or the two are as long, and it comes first
abbrev pub IsLess : List ℕ → List ℕ → Type 0
IsLess xs ys = (length xs < length ys) ⊎ ((length xs ≡ length ys) × ComesFirst xs ys)

-- it is one of these lists, and none of them is less
pub record IsLeast (Is : List ℕ → Type 0) (xs : List ℕ) : Type 0 where
  pub is : Is xs
  pub least : (ys : List ℕ) → Is ys → IsLess ys xs → ⊥
