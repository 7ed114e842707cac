-- Each list has its elements in order: each once, or as often as they stand in it.
use Rattle.std.proofs.Common.{◌≡◌, ◌⊎◌, ◌↔◌, inl, inr, zero, suc, ◌+◌, ◌<◌, ◌≤◌, false, List, [], ◌∷◌, AllPairs, Contains, IsPermutation, length, get_or, refl, sym, ap, ◌∙◌, subst, arith}
use Rattle.std.specs.Cmp.{IsTotalOrder}
use Rattle.std.specs.List.Sorted.{IsSorted}
use Rattle.std.specs.Ordering.{is_lt, ordering_reverse}
use Rattle.std.specs.declared.cmp.Ordering.{Ordering}
use Rattle.std.specs.declared.cmp.Ordering.TheVariants.{Less, Equal, Greater}
use Rattle.std.proofs.lemmas.List.Kept.{AllPairs-cons}
use Rattle.std.proofs.lemmas.List.Sorted.{IsPermutation-refl, IsPermutation-trans, IsPermutation-cons, IsPermutation-middle}
use Rattle.list_laws.proofs.OneOrder.{nothing_in, first_or_rest, in_rest, in_first, before_rest, rest_in_order}
use Rattle.import_rules.proofs.Lists.{all_by}

module _ {X : Type 0} (cmp : X → X → Ordering) (total : IsTotalOrder cmp) where
  abbrev IsRising : List X → Type 0
  IsRising xs = AllPairs (λ a b. cmp a b ≡ Less) xs

  -- the elements of the list, in order and each once
  pub record HasOnce (xs : List X) : Type 0 where
    pub once : List X
    pub rising : IsRising once
    pub each : (x : X) → Contains once x ↔ Contains xs x
    pub fewer : length once ≤ length xs

  -- one more element, where it isn't there

  abbrev put_by : Ordering → X → X → List X → List X → List X
  put_by Less x y ys more = x ∷ y ∷ ys
  put_by Equal x y ys more = y ∷ ys
  put_by Greater x y ys more = y ∷ more

  abbrev put : X → List X → List X
  put x [] = x ∷ []
  put x (y ∷ ys) = put_by (cmp x y) x y ys (put x ys)

  module _ (exact : (x y : X) → cmp x y ≡ Equal → x ≡ y) where
    put_from : (x z : X) (ys : List X) → Contains (put x ys) z → (x ≡ z) ⊎ Contains ys z
    put_from x z [] has = first_or_rest x z [] has
    put_from x z (y ∷ ys) has = at (cmp x y) (put_from x z ys) has
      where
        at : (o : Ordering) → (Contains (put x ys) z → (x ≡ z) ⊎ Contains ys z) → Contains (put_by o x y ys (put x ys)) z → (x ≡ z) ⊎ Contains (y ∷ ys) z
        at Less later there = first_or_rest x z (y ∷ ys) there
        at Equal later there = inr there
        at Greater later there =
            elim (first_or_rest y z (put x ys) there) [
              | inl is ↦ inr (subst (Contains (y ∷ ys)) is (in_first y ys))
              | inr rest ↦ elim (later rest) [ inl is ↦ inl is | inr old ↦ inr (in_rest y z ys old) ]
            ]

    put_there : (x z : X) (ys : List X) → (x ≡ z) ⊎ Contains ys z → Contains (put x ys) z
    put_there x z [] (inl is) = subst (Contains (x ∷ [])) is (in_first x [])
    put_there x z [] (inr has) = absurd (nothing_in z has)
    put_there x z (y ∷ ys) either = at (cmp x y) refl (put_there x z ys) either
      where
        at : (o : Ordering) → cmp x y ≡ o → ((x ≡ z) ⊎ Contains ys z → Contains (put x ys) z) → (x ≡ z) ⊎ Contains (y ∷ ys) z → Contains (put_by o x y ys (put x ys)) z
        at Less is later (inl same) = subst (Contains (x ∷ y ∷ ys)) same (in_first x (y ∷ ys))
        at Less is later (inr old) = in_rest x z (y ∷ ys) old
        at Equal is later (inl same) = subst (Contains (y ∷ ys)) (sym (exact x y is) ∙ same) (in_first y ys)
        at Equal is later (inr old) = old
        at Greater is later (inl same) = in_rest y z (put x ys) (later (inl same))
        at Greater is later (inr old) =
            elim (first_or_rest y z ys old) [
              | inl same ↦ subst (Contains (y ∷ put x ys)) same (in_first y (put x ys))
              | inr rest ↦ in_rest y z (put x ys) (later (inr rest))
            ]

    put_few : (x : X) (ys : List X) → length (put x ys) ≤ suc (length ys)
    put_few x [] = omega arith
    put_few x (y ∷ ys) = at (cmp x y) (put_few x ys)
      where
        at : (o : Ordering) → length (put x ys) ≤ suc (length ys) → length (put_by o x y ys (put x ys)) ≤ suc (suc (length ys))
        at Less few = omega arith
        at Equal few = omega arith
        at Greater few = omega (arith, few)

    put_rising : (x : X) (ys : List X) → IsRising ys → IsRising (put x ys)
    put_rising x [] up = λ i j d lt within. absurd (omega (arith, lt, within))
    put_rising x (y ∷ ys) up = at (cmp x y) refl (put_rising x ys (rest_in_order (λ a b. cmp a b ≡ Less) y ys up))
      where
        behind : (z : X) → Contains ys z → cmp y z ≡ Less
        behind z has = before_rest (λ a b. cmp a b ≡ Less) y z ys up has

        at : (o : Ordering) → cmp x y ≡ o → IsRising (put x ys) → IsRising (put_by o x y ys (put x ys))
        at Less is later =
            AllPairs-cons (λ a b. cmp a b ≡ Less) x (y ∷ ys)
            (all_by (λ z. cmp x z ≡ Less) (y ∷ ys) (λ z has.
            elim (first_or_rest y z ys has) [ inl same ↦ subst (λ w. cmp x w ≡ Less) same is | inr rest ↦ total.trans x y z is (behind z rest) ])) up
        at Equal is later = up
        at Greater is later =
            let less : cmp y x ≡ Less = total.antisymm y x ∙ ap ordering_reverse is in
            AllPairs-cons (λ a b. cmp a b ≡ Less) y (put x ys)
            (all_by (λ z. cmp y z ≡ Less) (put x ys) (λ z has.
            elim (put_from x z ys has) [ inl same ↦ subst (λ w. cmp y w ≡ Less) same less | inr rest ↦ behind z rest ])) later

    pub has_once : (xs : List X) → HasOnce xs
    has_once [] = record { once = []; rising = λ i j d lt within. absurd (omega (arith, within)); each = λ x. (λ has. has, λ has. has); fewer = omega arith }
    has_once (x ∷ xs) =
        let rest = has_once xs in
        record {
          once = put x rest.once;
          rising = put_rising x rest.once rest.rising;
          each = λ z. (
            λ has. elim (put_from x z rest.once has) [ inl is ↦ subst (Contains (x ∷ xs)) is (in_first x xs) | inr old ↦ in_rest x z xs ((rest.each z).0 old) ],
            λ has. put_there x z rest.once (elim (first_or_rest x z xs has) [ inl is ↦ inl is | inr later ↦ inr ((rest.each z).1 later) ]),
          );
          fewer = omega (arith, put_few x rest.once, rest.fewer);
        }

  -- the elements of the list in order
  pub record HasSorted (xs : List X) : Type 0 where
    pub sorted : List X
    pub moved : IsPermutation xs sorted
    pub in_order : IsSorted cmp sorted

  -- one more element

  abbrev into_by : Ordering → X → X → List X → List X → List X
  into_by Less x y ys more = x ∷ y ∷ ys
  into_by Equal x y ys more = x ∷ y ∷ ys
  into_by Greater x y ys more = y ∷ more

  abbrev into : X → List X → List X
  into x [] = x ∷ []
  into x (y ∷ ys) = into_by (cmp x y) x y ys (into x ys)

  into_moves : (x : X) (ys : List X) → IsPermutation (x ∷ ys) (into x ys)
  into_moves x [] = IsPermutation-refl (x ∷ [])
  into_moves x (y ∷ ys) = at (cmp x y) (into_moves x ys)
    where
      at : (o : Ordering) → IsPermutation (x ∷ ys) (into x ys) → IsPermutation (x ∷ y ∷ ys) (into_by o x y ys (into x ys))
      at Less later = IsPermutation-refl (x ∷ y ∷ ys)
      at Equal later = IsPermutation-refl (x ∷ y ∷ ys)
      at Greater later =
          IsPermutation-trans (x ∷ y ∷ ys) (y ∷ x ∷ ys) (y ∷ into x ys) (IsPermutation-middle (x ∷ []) y ys) (IsPermutation-cons y (x ∷ ys) (into x ys) later)

  -- the first of the list isn't less
  abbrev IsUpto : X → List X → Type 0
  IsUpto x ys = (d : X) → 0 < length ys → is_lt (cmp (get_or ys 0 d) x) ≡ false

  sorted_cons : (x : X) (ys : List X) → IsUpto x ys → IsSorted cmp ys → IsSorted cmp (x ∷ ys)
  sorted_cons x ys first up zero d low within = first d (omega (arith, within))
  sorted_cons x ys first up (suc k) d low within =
      let next : suc k + 1 ≡ suc (k + 1) = omega arith in
      subst (λ n. is_lt (cmp (get_or (x ∷ ys) n d) (get_or ys k d)) ≡ false) (sym next) (up k d (omega arith) (omega (arith, within)))

  sorted_rest : (y : X) (ys : List X) → IsSorted cmp (y ∷ ys) → IsSorted cmp ys
  sorted_rest y ys up k d low within =
      let next : suc k + 1 ≡ suc (k + 1) = omega arith in
      subst (λ n. is_lt (cmp (get_or (y ∷ ys) n d) (get_or ys k d)) ≡ false) next (up (suc k) d (omega arith) (omega (arith, within)))

  into_upto : (x y : X) (ys : List X) → is_lt (cmp x y) ≡ false → IsUpto y ys → IsUpto y (into x ys)
  into_upto x y [] first rest d some = first
  into_upto x y (z ∷ ys) first rest d some = at (cmp x z)
    where
      at : (o : Ordering) → is_lt (cmp (get_or (into_by o x z ys (into x ys)) 0 d) y) ≡ false
      at Less = first
      at Equal = first
      at Greater = rest d (omega arith)

  into_sorted : (x : X) (ys : List X) → IsSorted cmp ys → IsSorted cmp (into x ys)
  into_sorted x [] up = λ k d low within. absurd (omega (arith, within))
  into_sorted x (y ∷ ys) up = at (cmp x y) refl (into_sorted x ys (sorted_rest y ys up))
    where
      at : (o : Ordering) → cmp x y ≡ o → IsSorted cmp (into x ys) → IsSorted cmp (into_by o x y ys (into x ys))
      at Less is later = sorted_cons x (y ∷ ys) (λ d some. ap is_lt (total.antisymm y x ∙ ap ordering_reverse is)) up
      at Equal is later = sorted_cons x (y ∷ ys) (λ d some. ap is_lt (total.antisymm y x ∙ ap ordering_reverse is)) up
      at Greater is later = sorted_cons y (into x ys) (into_upto x y ys (ap is_lt is) (λ d some. up 0 d (omega arith) (omega (arith, some)))) later

  pub has_sorted : (xs : List X) → HasSorted xs
  has_sorted [] = record { sorted = []; moved = IsPermutation-refl []; in_order = λ k d low within. absurd (omega (arith, within)) }
  has_sorted (x ∷ xs) =
      let rest = has_sorted xs in
      record {
        sorted = into x rest.sorted;
        moved = IsPermutation-trans (x ∷ xs) (x ∷ rest.sorted) (into x rest.sorted) (IsPermutation-cons x xs rest.sorted rest.moved) (into_moves x rest.sorted);
        in_order = into_sorted x rest.sorted rest.in_order;
      }
