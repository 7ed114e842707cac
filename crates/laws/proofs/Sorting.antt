-- Numbers in ascending order.
use Rattle.std.proofs.Common.{inl, inr, ℕ, zero, suc, ◌<◌, ◌≤◌, List, [], ◌∷◌, length, get_or, nat_eq, arith}
use Rattle.std.proofs.lemmas.Bool.{cases_lt}
use Rattle.std.proofs.lemmas.Cmp.{nat_eq_equiv}
use Rattle.std.proofs.lemmas.List.Sorted.{IsPermutation-cons, IsPermutation-middle, IsPermutation-refl, IsPermutation-sym, IsPermutation-trans}
use Rattle.std.proofs.lemmas.Map.Keys.{IsDistinct-IsPermutation, IsStrictlyIncreasing-from_distinct}
use Rattle.std.specs.List.{IsDistinct}
use Rattle.std.specs.List.Sorted.{IsNonDecreasing, IsPermutation, IsStrictlyIncreasing}
use Rattle.std.specs.Prelude.{⊤}

-- the numbers don't fall, from this one on
abbrev Rises : ℕ → List ℕ → Type 0
Rises low [] = ⊤
Rises low (x ∷ xs) = (low ≤ x) × Rises x xs

abbrev Inserted : ℕ → ℕ → List ℕ → Type 0
Inserted low x ys = (list : List ℕ) × IsPermutation (x ∷ ys) list × Rises low list

insert_in : (low x : ℕ) (ys : List ℕ) → low ≤ x → Rises low ys → Inserted low x ys
insert_in low x [] from up = (x ∷ [], IsPermutation-refl (x ∷ []), (from, tt))
insert_in low x (y ∷ ys) from up = elim (cases_lt x y) [
  | inl lt ↦ (let le : x ≤ y = omega (arith, lt) in (x ∷ y ∷ ys, IsPermutation-refl (x ∷ y ∷ ys), (from, (le, up.1))))
  | inr le ↦
      let rest : Inserted y x ys = insert_in y x ys le up.1 in (
        y ∷ rest.0,
        IsPermutation-trans (x ∷ y ∷ ys) (y ∷ x ∷ ys) (y ∷ rest.0) (IsPermutation-sym (y ∷ x ∷ ys) (x ∷ y ∷ ys) (IsPermutation-middle (y ∷ []) x ys))
            (IsPermutation-cons y (x ∷ ys) rest.0 rest.1),
        (up.0, rest.2),
      )
]

in_order : (xs : List ℕ) → (list : List ℕ) × IsPermutation xs list × Rises 0 list
in_order [] = ([], IsPermutation-refl [], tt)
in_order (x ∷ xs) =
    let rest : (list : List ℕ) × IsPermutation xs list × Rises 0 list = in_order xs in
    let more : Inserted 0 x rest.0 = insert_in 0 x rest.0 (omega arith) rest.2 in
    (more.0, IsPermutation-trans (x ∷ xs) (x ∷ rest.0) more.0 (IsPermutation-cons x xs rest.0 rest.1) more.1, more.2)

from_low : (low : ℕ) (xs : List ℕ) → Rises low xs → (j d : ℕ) → j < length xs → low ≤ get_or xs j d
from_low low [] up j d lt = absurd (omega (arith, lt))
from_low low (x ∷ xs) up zero d lt = up.0
from_low low (x ∷ xs) up (suc j) d lt = let rest = from_low x xs up.1 j d (omega (arith, lt)) in let le : low ≤ x = up.0 in omega (arith, rest, le)

never_falls : (low : ℕ) (xs : List ℕ) → Rises low xs → (i j d : ℕ) → i ≤ j → j < length xs → get_or xs i d ≤ get_or xs j d
never_falls low [] up i j d le lt = absurd (omega (arith, lt))
never_falls low (x ∷ xs) up zero zero d le lt = omega arith
never_falls low (x ∷ xs) up zero (suc j) d le lt = from_low x xs up.1 j d (omega (arith, lt))
never_falls low (x ∷ xs) up (suc i) zero d le lt = absurd (omega (arith, le))
never_falls low (x ∷ xs) up (suc i) (suc j) d le lt = never_falls x xs up.1 i j d (omega (arith, le)) (omega (arith, lt))

-- distinct numbers ascend in some order
pub ascending_of : (xs : List ℕ) → IsDistinct nat_eq xs → (list : List ℕ) × IsPermutation xs list × IsStrictlyIncreasing list
ascending_of xs distinct =
    let all : (list : List ℕ) × IsPermutation xs list × Rises 0 list = in_order xs in
    let up : IsNonDecreasing all.0 = never_falls 0 all.0 all.2 in
    (all.0, all.1, IsStrictlyIncreasing-from_distinct all.0 up (IsDistinct-IsPermutation nat_eq nat_eq_equiv.symm xs all.0 all.1 distinct))
