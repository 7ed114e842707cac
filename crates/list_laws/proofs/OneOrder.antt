-- A list in strict order is the only one with its elements, and what is summed over lists in any order.
use Rattle.std.proofs.Common.{◌≡◌, ℕ, zero, suc, ◌+◌, ◌<◌, ◌≤◌, ◌⊎◌, List, [], ◌∷◌, length, map, max, fold, sum_by, get_or, All, AllPairs, Contains, IsPermutation, refl, sym, subst, ◌∙◌, ap, inl, inr, arith}
use Rattle.std.specs.Cmp.{IsTotalOrder}
use Rattle.std.specs.Ordering.{ordering_reverse}
use Rattle.std.specs.declared.cmp.Ordering.{Ordering}
use Rattle.std.specs.declared.cmp.Ordering.TheVariants.{Less, Greater}
use Rattle.std.specs.List.{range_with_len}
use Rattle.std.proofs.lemmas.List.{ext_get_or}
use Rattle.std.proofs.lemmas.List.FromFn.{length-range_with_len, get_or-range_with_len, length-map-range_with_len, get_or-map-range_with_len}
use Rattle.std.proofs.lemmas.List.Sums.{sum_by-cons}
use Rattle.std.proofs.lemmas.List.Sorted.{Contains-permutation, IsPermutation-sym, sum_by-IsPermutation}

-- no two elements stand before each other
pub record IsStrict {X : Type 0} (R : X → X → Type 0) : Type 0 where
  pub one_way : (a b : X) → R a b → R b a → ⊥

pub nothing_in : {X : Type 0} (x : X) → Contains [] x → ⊥
nothing_in {X} x has = let lt : has.0 < 0 = has.1 in omega arith

pub first_or_rest : {X : Type 0} (x y : X) (xs : List X) → Contains (x ∷ xs) y → (x ≡ y) ⊎ Contains xs y
first_or_rest {X} x y xs (zero, lt, is) = inl is
first_or_rest {X} x y xs (suc k, lt, is) = let within : k < length xs = omega arith in inr (k, within, is)

pub in_rest : {X : Type 0} (x y : X) (xs : List X) → Contains xs y → Contains (x ∷ xs) y
in_rest {X} x y xs (k, lt, is) = let within : suc k < suc (length xs) = omega arith in (suc k, within, is)

pub in_first : {X : Type 0} (x : X) (xs : List X) → Contains (x ∷ xs) x
in_first {X} x xs = let within : 0 < suc (length xs) = omega arith in (0, within, refl)

pub before_rest : {X : Type 0} (R : X → X → Type 0) (x z : X) (xs : List X) → AllPairs R (x ∷ xs) → Contains xs z → R x z
before_rest {X} R x z xs up (k, lt, is) =
    let within : suc k < suc (length xs) = omega arith in
    subst (λ y. R x y) is (up 0 (suc k) z (omega arith) within)

pub rest_in_order : {X : Type 0} (R : X → X → Type 0) (x : X) (xs : List X) → AllPairs R (x ∷ xs) → AllPairs R xs
rest_in_order {X} R x xs up i j d lt in_xs =
    let within : suc j < suc (length xs) = omega arith in
    up (suc i) (suc j) d (omega arith) within

-- the rest of a list has what the other has after the same first element
pub rest_there : {X : Type 0} (R : X → X → Type 0) → IsStrict R → (x y : X) (xs ys : List X) → x ≡ y → AllPairs R (x ∷ xs)
    → ((z : X) → Contains (x ∷ xs) z → Contains (y ∷ ys) z) → (z : X) → Contains xs z → Contains ys z
rest_there {X} R strict x y xs ys same up there z has =
    elim (first_or_rest y z ys (there z (in_rest x z xs has))) [
      | inl is ↦
          let before = subst (λ w. R x w) (sym (same ∙ is)) (before_rest R x z xs up has) in
          absurd (strict.one_way x x before before)
      | inr rest ↦ rest
    ]

-- lists in one strict order with the same elements are the same
pub same_order : {X : Type 0} (R : X → X → Type 0) → IsStrict R → (xs ys : List X) → AllPairs R xs → AllPairs R ys
    → ((z : X) → Contains xs z → Contains ys z) → ((z : X) → Contains ys z → Contains xs z) → xs ≡ ys
same_order {X} R strict [] [] up vp there back = refl
same_order {X} R strict [] (y ∷ ys) up vp there back = absurd (nothing_in y (back y (in_first y ys)))
same_order {X} R strict (x ∷ xs) [] up vp there back = absurd (nothing_in x (there x (in_first x xs)))
same_order {X} R strict (x ∷ xs) (y ∷ ys) up vp there back =
    let rest : x ≡ y → xs ≡ ys = λ same.
    same_order R strict xs ys (rest_in_order R x xs up) (rest_in_order R y ys vp) (rest_there R strict x y xs ys same up there)
    (rest_there R strict y x ys xs (sym same) vp back) in
    let first : x ≡ y =
    elim (first_or_rest y x ys (there x (in_first x xs))) [
      | inl is ↦ sym is
      | inr x_later ↦
          elim (first_or_rest x y xs (back y (in_first y ys))) [
            | inl is ↦ is
            | inr y_later ↦ absurd (strict.one_way x y (before_rest R x y xs up y_later) (before_rest R y x ys vp x_later))
          ]
    ] in
    λ i. first i ∷ rest first i

-- what holds of all holds of each
pub holds_of : {X : Type 0} (P : X → Type 0) (xs : List X) (x : X) → All P xs → Contains xs x → P x
holds_of {X} P xs x all (k, lt, is) = subst P is (all k x lt)

-- the numbers below n

pub range_has : (n p : ℕ) → p < n → Contains (range_with_len 0 n) p
range_has n p below = (p, omega (arith, below, length-range_with_len 0 n), omega (arith, get_or-range_with_len 0 n p p below))

pub range_below : (n p : ℕ) → Contains (range_with_len 0 n) p → p < n
range_below n p (k, lt, is) =
    let within : k < n = omega (arith, lt, length-range_with_len 0 n) in omega (arith, is, within, get_or-range_with_len 0 n k p within)

pub order_has : (n p : ℕ) (order : List ℕ) → IsPermutation (range_with_len 0 n) order → p < n → Contains order p
order_has n p order moved below = Contains-permutation (range_with_len 0 n) order p moved (range_has n p below)

pub order_below : (n p : ℕ) (order : List ℕ) → IsPermutation (range_with_len 0 n) order → Contains order p → p < n
order_below n p order moved has =
    range_below n p (Contains-permutation order (range_with_len 0 n) p (IsPermutation-sym (range_with_len 0 n) order moved) has)

-- sums

pub sum_by-map : {X Y : Type 0} (f : Y → ℕ) (g : X → Y) (xs : List X) → sum_by f (map g xs) ≡ sum_by (λ x. f (g x)) xs
sum_by-map {X} {Y} f g [] = refl
sum_by-map {X} {Y} f g (x ∷ xs) =
    sum_by-cons f (g x) (map g xs) ∙ (ap (λ n. f (g x) + n) (sum_by-map f g xs) ∙ sym (sum_by-cons (λ y. f (g y)) x xs))

-- a list is what stands at its places
pub by_places : {X : Type 0} (d : X) (xs : List X) → map (λ i. get_or xs i d) (range_with_len 0 (length xs)) ≡ xs
by_places {X} d xs =
    let long = length-map-range_with_len (λ i. get_or xs i d) 0 (length xs) in
    ext_get_or d (map (λ i. get_or xs i d) (range_with_len 0 (length xs))) xs long
    (λ i lt. get_or-map-range_with_len (λ j. get_or xs j d) 0 (length xs) i i d (omega (arith, lt, long)) (omega arith))

-- a sum over a list is the sum over its places in any order
pub sum_by_places : {X : Type 0} (f : X → ℕ) (d : X) (xs : List X) (order : List ℕ) → IsPermutation (range_with_len 0 (length xs)) order
    → sum_by f xs ≡ sum_by (λ i. f (get_or xs i d)) order
sum_by_places {X} f d xs order moved =
    let all = range_with_len 0 (length xs) in
    ap (sum_by f) (sym (by_places d xs))
    ∙ (sum_by-map f (λ i. get_or xs i d) all ∙ sym (sum_by-IsPermutation (λ i. f (get_or xs i d)) all order moved))

-- greatest numbers

pub most_upto : (bound a : ℕ) (xs : List ℕ) → a ≤ bound → ((x : ℕ) → Contains xs x → x ≤ bound) → fold max a xs ≤ bound
most_upto bound a [] low each = low
most_upto bound a (x ∷ xs) low each =
    most_upto bound (max a x) xs (omega (arith, low, each x (in_first x xs))) (λ z has. each z (in_rest x z xs has))

pub most_from : (a : ℕ) (xs : List ℕ) → a ≤ fold max a xs
most_from a [] = omega arith
most_from a (x ∷ xs) = let more : max a x ≤ fold max (max a x) xs = most_from (max a x) xs in omega (arith, more)

pub most_each : (a : ℕ) (xs : List ℕ) (x : ℕ) → Contains xs x → x ≤ fold max a xs
most_each a [] x has = absurd (nothing_in x has)
most_each a (y ∷ ys) x has = elim (first_or_rest y x ys has) [
  | inl is ↦ let more : max a y ≤ fold max (max a y) ys = most_from (max a y) ys in omega (arith, more, is)
  | inr later ↦ most_each (max a y) ys x later
]

-- total orders

pub less_strict : {X : Type 0} (cmp : X → X → Ordering) → IsTotalOrder cmp → IsStrict (λ a b. cmp a b ≡ Less)
less_strict {X} cmp total = record {
  one_way = λ a b there back.
      let both : Less ≡ Greater = sym there ∙ (total.antisymm a b ∙ ap ordering_reverse back) in cc;
}
