-- The lists that numbers stand for are those that they were made of.
use Rattle.std.proofs.Common.{◌≡◌, ℕ, suc, List, [], ◌∷◌, ◌++◌, map, refl, ap, ◌∙◌}
use Rattle.group_release.specs.Coding.{numbers_of, put_first, lists_from}

first_again : (xs ns : List ℕ) → lists_from (map suc xs ++ 0 ∷ ns) ≡ xs ∷ lists_from ns
first_again [] ns = refl
first_again (x ∷ xs) ns = ap (put_first x) (first_again xs ns)

pub back_again : (lists : List (List ℕ)) → lists_from (numbers_of lists) ≡ lists
back_again [] = refl
back_again (xs ∷ rest) = first_again xs (numbers_of rest) ∙ ap (λ more. xs ∷ more) (back_again rest)
