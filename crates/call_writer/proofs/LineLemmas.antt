-- Lines of two lists that go side by side.
use Rattle.std.proofs.Common.{◌≡◌, ◌⊎◌, inl, inr, ℕ, List, [], ◌∷◌, ◌++◌, ap, sym, ◌∙◌, refl, append_assoc, append-nil}
use Rattle.std.specs.List.{flat_map, zip}

module _ {X Y : Type 0} (f : X × Y → List ℕ) where
  -- the lines of what is left of both lists
  abbrev pub lines_of : List X → List Y → List ℕ
  lines_of xs ys = flat_map f (zip xs ys)

  -- one more line
  pub line_more : (xs rest : List X) (ys more : List Y) (x : X) (y : Y) (now next all : List ℕ) → xs ≡ x ∷ rest → ys ≡ y ∷ more → next ≡ now ++ f (x, y)
      → now ++ lines_of xs ys ≡ all → next ++ lines_of rest more ≡ all
  line_more xs rest ys more x y now next all first second pushed is =
      ap (λ text. text ++ lines_of rest more) pushed
      ∙ (append_assoc now (f (x, y)) (lines_of rest more) ∙ ((λ i. now ++ lines_of (sym first i) (sym second i)) ∙ is))

  none_left : (xs : List X) (ys : List Y) → (xs ≡ []) ⊎ (ys ≡ []) → lines_of xs ys ≡ []
  none_left xs ys (inl none) = ap (λ zs. lines_of zs ys) none
  none_left [] ys (inr none) = refl
  none_left (x ∷ xs) ys (inr none) = ap (lines_of (x ∷ xs)) none

  -- no line is left
  pub lines_done : (xs : List X) (ys : List Y) (now all : List ℕ) → (xs ≡ []) ⊎ (ys ≡ []) → now ++ lines_of xs ys ≡ all → now ≡ all
  lines_done xs ys now all either is = sym (ap (λ more. now ++ more) (none_left xs ys either) ∙ append-nil now) ∙ is
