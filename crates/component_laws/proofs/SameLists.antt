-- Two lists of numbers are the same or not, and one begins another or not.
use Rattle.std.proofs.Common.{◌≡◌, ◌⊎◌, inl, inr, ℕ, List, [], ◌∷◌, ◌++◌, refl}
use Rattle.std.proofs.lemmas.Bool.{cases_eq}
use Rattle.component_laws.proofs.Known.{IsFound, IsKnown}

heads : {A : Type 0} (x y : A) (xs ys : List A) → x ∷ xs ≡ y ∷ ys → x ≡ y
heads x y xs ys is = cc

tails : {A : Type 0} (x y : A) (xs ys : List A) → x ∷ xs ≡ y ∷ ys → xs ≡ ys
tails x y xs ys is = cc

pub same_or_not : (xs ys : List ℕ) → IsKnown (xs ≡ ys)
same_or_not [] [] = inl refl
same_or_not [] (y ∷ ys) = inr (λ is. let both : [] ≡ y ∷ ys = is in cc)
same_or_not (x ∷ xs) [] = inr (λ is. let both : x ∷ xs ≡ [] = is in cc)
same_or_not (x ∷ xs) (y ∷ ys) = go (cases_eq x y) (same_or_not xs ys)
  where
    go : (x ≡ y) ⊎ (x ≡ y → ⊥) → IsKnown (xs ≡ ys) → IsKnown (x ∷ xs ≡ y ∷ ys)
    go (inr other) rest = inr (λ is. other (heads x y xs ys is))
    go (inl same) (inr other) = inr (λ is. other (tails x y xs ys is))
    go (inl same) (inl rest) = inl (λ i. same i ∷ rest i)

-- what comes after the first list in the second
pub rest_or_none : (first whole : List ℕ) → IsFound (λ rest. whole ≡ first ++ rest)
rest_or_none [] whole = inl (whole, refl)
rest_or_none (x ∷ first) [] = inr (λ rest is. let both : [] ≡ x ∷ (first ++ rest) = is in cc)
rest_or_none (x ∷ first) (y ∷ whole) = go (cases_eq y x) (rest_or_none first whole)
  where
    go : (y ≡ x) ⊎ (y ≡ x → ⊥) → IsFound (λ rest. whole ≡ first ++ rest) → IsFound (λ rest. y ∷ whole ≡ (x ∷ first) ++ rest)
    go (inr other) rest = inr (λ more is. other (heads y x whole (first ++ more) is))
    go (inl same) (inr none) = inr (λ more is. none more (tails y x whole (first ++ more) is))
    go (inl same) (inl rest) = inl (rest.0, λ i. same i ∷ rest.1 i)
