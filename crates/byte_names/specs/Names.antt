-- Names of any bytes, each with an index.
use Rattle.std.specs.Prelude.{◌≡◌, ℕ, ◌<◌, ◌⊎◌, ◌++◌, List, [], ◌∷◌, length, map, slice_index_or, AllPairs}
use Rattle.std.specs.declared.cmp.Ordering.TheVariants.{Less}
use Rattle.std.specs.Ordering.{nat_cmp}
use Rattle.std.specs.Cmp.Lexicographic.{slice_cmp}
use denote.Ref.{Bor}

-- the names that ranges of a text are
abbrev pub names_of : List (Bor (List ℕ)) → List (List ℕ)
names_of names = map (λ name. name.now) names

-- the name with an index
abbrev pub name_at : List (List ℕ) → ℕ → List ℕ
name_at names place = slice_index_or names place []

-- each name comes before all later ones, in the order of bytes
abbrev pub AreInOrder : List (List ℕ) → Type 0
AreInOrder names = AllPairs (λ a b. slice_cmp nat_cmp a b ≡ Less) names

-- among the new names, which are the old ones and perhaps this one after them, the name has the index
pub record IsPlaced (old : List (List ℕ)) (name : List ℕ) (new : List (List ℕ)) (place : ℕ) : Type 0 where
  pub within : place < length new
  pub named : name_at new place ≡ name
  pub kept : (new ≡ old) ⊎ (new ≡ old ++ name ∷ [])
