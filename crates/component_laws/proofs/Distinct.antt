-- Lists in which each number stands once, and how long they are.
use Rattle.std.proofs.Common.{◌≡◌, ◌≢◌, ◌⊎◌, inl, inr, ℕ, suc, ◌<◌, ◌≤◌, List, [], ◌∷◌, ◌++◌, AllPairs, Contains, eqb, length, sum_by, get_or, sym, ap, subst, arith}
use Rattle.std.specs.Prelude.{⊤}
use Rattle.std.specs.List.{IsDistinct, flat_map}
use Rattle.std.specs.List.Sorted.{IsStrictlyIncreasing}
use Rattle.std.proofs.lemmas.Bool.{cases_eq}
use Rattle.std.proofs.lemmas.Bool.Decides.{Decides-eqb}
use Rattle.std.proofs.lemmas.Cmp.{nat_eq_equiv}
use Rattle.std.proofs.lemmas.List.Concat.{length-flat_map}
use Rattle.std.proofs.lemmas.List.Elements.{Contains-append_cases}
use Rattle.std.proofs.lemmas.List.Kept.{AllPairs-cons, AllPairs-from_increasing}
use Rattle.std.proofs.lemmas.Map.Made.{IsDistinct-from_AllPairs, is_member-Decides, length-le_from_is_member}
use Rattle.std.proofs.lemmas.Map.Steps.{length-le_from_distinct_below}
use Rattle.graph_law.specs.Classes.{HasMember, group_at}
use Rattle.graph_law.specs.LegalOrder.{IsLegalOrder}
use Rattle.list_laws.proofs.OneOrder.{before_rest, first_or_rest, in_first, in_rest, nothing_in, rest_in_order}
use Rattle.list_laws.proofs.Members.{all_by}

-- each number stands once
abbrev pub AreApart : List ℕ → Type 0
AreApart [] = ⊤
AreApart (x ∷ xs) = (Contains xs x → ⊥) × AreApart xs

distinct : (xs : List ℕ) → AreApart xs → IsDistinct eqb xs
distinct xs apart = IsDistinct-from_AllPairs Decides-eqb xs (pairs xs apart)
  where
    pairs : (ys : List ℕ) → AreApart ys → AllPairs (λ a b. a ≢ b) ys
    pairs [] each = λ i j d lt within. absurd (omega (arith, within))
    pairs (y ∷ ys) each =
        AllPairs-cons (λ a b. a ≢ b) y ys (all_by (λ z. y ≢ z) ys (λ z has is. each.0 (subst (Contains ys) (sym is) has))) (pairs ys each.1)

pub no_longer : (xs ys : List ℕ) → AreApart xs → ((x : ℕ) → Contains xs x → Contains ys x) → length xs ≤ length ys
no_longer xs ys apart all =
    length-le_from_is_member nat_eq_equiv xs ys (distinct xs apart)
    (λ q is. (is_member-Decides Decides-eqb ys q).1 (all q ((is_member-Decides Decides-eqb xs q).0 is)))

pub few_below : (xs : List ℕ) (count : ℕ) → AreApart xs → ((x : ℕ) → Contains xs x → x < count) → length xs ≤ count
few_below xs count apart below =
    length-le_from_distinct_below xs count (distinct xs apart) (λ q is. below q ((is_member-Decides Decides-eqb xs q).0 is))

-- a number stands twice
pub record IsTwice (xs : List ℕ) : Type 0 where
  pub before : List ℕ
  pub twice : ℕ
  pub between : List ℕ
  pub after : List ℕ
  pub is : xs ≡ before ++ twice ∷ (between ++ twice ∷ after)

record StandsIn (xs : List ℕ) (x : ℕ) : Type 0 where
  before : List ℕ
  after : List ℕ
  is : xs ≡ before ++ x ∷ after

stands_or_not : (xs : List ℕ) (x : ℕ) → StandsIn xs x ⊎ (Contains xs x → ⊥)
stands_or_not [] x = inr (λ has. nothing_in x has)
stands_or_not (y ∷ xs) x = go (cases_eq y x) (stands_or_not xs x)
  where
    go : (y ≡ x) ⊎ (y ≡ x → ⊥) → StandsIn xs x ⊎ (Contains xs x → ⊥) → StandsIn (y ∷ xs) x ⊎ (Contains (y ∷ xs) x → ⊥)
    go (inl here) rest = inl (record { before = []; after = xs; is = ap (λ z. z ∷ xs) here })
    go (inr other) (inl later) = inl (record { before = y ∷ later.before; after = later.after; is = ap (λ zs. y ∷ zs) later.is })
    go (inr other) (inr none) = inr (λ has. elim (first_or_rest y x xs has) [ inl is ↦ other is | inr later ↦ none later ])

pub apart_or_twice : (xs : List ℕ) → AreApart xs ⊎ IsTwice xs
apart_or_twice [] = inl tt
apart_or_twice (x ∷ xs) = go (stands_or_not xs x) (apart_or_twice xs)
  where
    go : StandsIn xs x ⊎ (Contains xs x → ⊥) → AreApart xs ⊎ IsTwice xs → AreApart (x ∷ xs) ⊎ IsTwice (x ∷ xs)
    go (inl again) rest = inr (record { before = []; twice = x; between = again.before; after = again.after; is = ap (λ zs. x ∷ zs) again.is })
    go (inr none) (inl apart) = inl (none, apart)
    go (inr none) (inr two) =
        inr (record { before = x ∷ two.before; twice = two.twice; between = two.between; after = two.after; is = ap (λ zs. x ∷ zs) two.is })

-- numbers that ascend
pub ascending_apart : (xs : List ℕ) → IsStrictlyIncreasing xs → AreApart xs
ascending_apart xs up = by_pairs xs (AllPairs-from_increasing xs up)
  where
    by_pairs : (ys : List ℕ) → AllPairs (λ a b. a < b) ys → AreApart ys
    by_pairs [] pairs = tt
    by_pairs (y ∷ ys) pairs = (
      λ has. (let lt : y < y = before_rest (λ a b. a < b) y y ys pairs has in omega (arith, lt)),
      by_pairs ys (rest_in_order (λ a b. a < b) y ys pairs),
    )

append_apart : (xs ys : List ℕ) → AreApart xs → AreApart ys → ((x : ℕ) → Contains xs x → Contains ys x → ⊥) → AreApart (xs ++ ys)
append_apart [] ys one other never = other
append_apart (x ∷ xs) ys one other never = (
  λ has. elim (Contains-append_cases xs ys x has) [
    | inl here ↦ one.0 here
    | inr there ↦ never x (in_first x xs) there
  ],
  append_apart xs ys one.1 other (λ z here there. never z (in_rest x z xs here) there),
)

-- lists one after another

-- the list among them, from which an element comes
pub record ComesFrom {X Y : Type 0} (f : X → List Y) (d : X) (xs : List X) (y : Y) : Type 0 where
  pub place : ℕ
  pub within : place < length xs
  pub has : Contains (f (get_or xs place d)) y

pub comes_from : {X Y : Type 0} (f : X → List Y) (d : X) (xs : List X) (y : Y) → Contains (flat_map f xs) y → ComesFrom f d xs y
comes_from f d [] y has = absurd (nothing_in y has)
comes_from f d (x ∷ xs) y has = elim (Contains-append_cases (f x) (flat_map f xs) y has) [
  | inl here ↦ record { place = 0; within = omega arith; has = here }
  | inr there ↦
      let later = comes_from f d xs y there in
      let lt = later.within in
      record { place = suc later.place; within = omega (arith, lt); has = later.has }
]

abbrev pub members_of : List (List ℕ) → List ℕ
members_of groups = flat_map (λ group. group) groups

-- no number is in two of the lists
abbrev AreOnce : List (List ℕ) → Type 0
AreOnce groups = (i j p : ℕ) → i < length groups → j < length groups → Contains (group_at groups i) p → Contains (group_at groups j) p → i ≡ j

members_apart : (groups : List (List ℕ)) → ((i : ℕ) → i < length groups → AreApart (group_at groups i)) → AreOnce groups → AreApart (members_of groups)
members_apart [] each once = tt
members_apart (group ∷ groups) each once =
    append_apart group (members_of groups) (each 0 (omega arith))
    (members_apart groups (λ i lt. each (suc i) (omega (arith, lt)))
    (λ i j p within inside here there.
    let next : suc i ≡ suc j = once (suc i) (suc j) p (omega (arith, within)) (omega (arith, inside)) here there in omega (arith, next)))
    (λ x here there.
    let later = comes_from (λ g. g) [] groups x there in
    let lt = later.within in
    let same : 0 ≡ suc later.place = once 0 (suc later.place) x (omega arith) (omega (arith, lt)) here later.has in omega (arith, same))

-- groups have no more members than there are nodes
pub few_members : {calls : ℕ → ℕ → Type 0} (groups : List (List ℕ)) (count : ℕ) → IsLegalOrder calls groups
    → ((p : ℕ) → HasMember groups p → p < count) → sum_by length groups ≤ count
few_members groups count legal nodes =
    let apart : AreApart (members_of groups) =
    members_apart groups (λ i lt. ascending_apart (group_at groups i) (legal.each i [] lt).ascending) legal.once in
    let few : length (members_of groups) ≤ count =
    few_below (members_of groups) count apart
    (λ x has. let from = comes_from (λ g. g) [] groups x has in nodes x (record { place = from.place; within = from.within; member = from.has })) in
    omega (arith, few, length-flat_map (λ (group : List ℕ). group) groups)
