-- What holds or doesn't, of the elements of lists; a relation that holds or doesn't, as lists of successors.
use Rattle.std.proofs.Common.{◌≡◌, ◌↔◌, ◌⊎◌, inl, inr, ℕ, ◌<◌, ◌≤◌, Bool, true, false, List, [], ◌∷◌, length, map, get_or, refl, sym, ap, ◌∙◌, subst, arith}
use Rattle.std.specs.Prelude.{Contains, slice_index_or}
use Rattle.std.specs.List.{range_with_len}
use Rattle.std.specs.Str.{bytes_eq}
use Rattle.std.proofs.lemmas.Bool.{cases_lt}
use Rattle.std.proofs.lemmas.List.{get_or_past}
use Rattle.std.proofs.lemmas.List.FromFn.{length-map-range_with_len, get_or-map-range_with_len}
use Rattle.std.proofs.lemmas.Slice.Eq.{bytes_eq-Decides}
use Rattle.graph_law.specs.Graph.{Calls}
use Rattle.list_laws.proofs.OneOrder.{nothing_in, first_or_rest, in_first, in_rest, range_has}
use Rattle.laws.proofs.Choices.{Decided}

-- two facts

pub both_or : {P Q : Type 0} → Decided P → Decided Q → Decided (P × Q)
both_or {P} {Q} (inl first) (inl second) = inl (first, second)
both_or {P} {Q} (inl first) (inr fails) = inr (λ both. fails both.1)
both_or {P} {Q} (inr fails) second = inr (λ both. fails both.0)

pub either_or : {P Q : Type 0} → Decided P → Decided Q → Decided (P ⊎ Q)
either_or {P} {Q} (inl first) second = inl (inl first)
either_or {P} {Q} (inr fails) (inl second) = inl (inr second)
either_or {P} {Q} (inr fails) (inr lacks) = inr (λ either. elim either [ inl first ↦ fails first | inr second ↦ lacks second ])

pub not_or : {P : Type 0} → Decided P → Decided (P → ⊥)
not_or {P} (inl holds) = inr (λ none. none holds)
not_or {P} (inr fails) = inl fails

-- numbers and names

pub upto_or : (a b : ℕ) → Decided (a ≤ b)
upto_or a b = elim (cases_lt b a) [
  | inl lt ↦ inr (λ le. omega (arith, lt, le))
  | inr le ↦ inl le
]

pub same_or : (a b : List ℕ) → Decided (a ≡ b)
same_or a b = at (bytes_eq a b) refl
  where
    at : (eq : Bool) → bytes_eq a b ≡ eq → Decided (a ≡ b)
    at true is = inl ((bytes_eq-Decides a b).0 is)
    at false is = inr (λ same. (let both : true ≡ false = sym ((bytes_eq-Decides a b).1 same) ∙ is in cc))

pub alone_or : (names : List (List ℕ)) (name : List ℕ) → Decided (names ≡ name ∷ [])
alone_or [] name = inr (λ is. (let long : 0 ≡ 1 = ap length is in omega (arith, long)))
alone_or (a ∷ []) name = elim (same_or a name) [
  | inl same ↦ inl (ap (λ n. n ∷ []) same)
  | inr differ ↦ inr (λ is. differ (ap (λ (ns : List (List ℕ)). get_or ns 0 []) is))
]
alone_or (a ∷ b ∷ names) name = inr (λ is. (let long : length (a ∷ b ∷ names) ≡ 1 = ap length is in omega (arith, long)))

-- an element of the list has the property
pub record HasOne {X : Type 0} (P : X → Type 0) (xs : List X) : Type 0 where
  pub element : X
  pub is_in : Contains xs element
  pub holds : P element

pub one_or_none : {X : Type 0} (P : X → Type 0) → ((x : X) → Decided (P x)) → (xs : List X) → Decided (HasOne P xs)
one_or_none {X} P each [] = inr (λ one. nothing_in one.element one.is_in)
one_or_none {X} P each (x ∷ xs) = elim (each x) [
  | inl holds ↦ inl (record { element = x; is_in = in_first x xs; holds = holds })
  | inr fails ↦ elim (one_or_none P each xs) [
    | inl one ↦ inl (record { element = one.element; is_in = in_rest x one.element xs one.is_in; holds = one.holds })
    | inr none ↦ inr (λ one. elim (first_or_rest x one.element xs one.is_in) [
      | inl is ↦ fails (subst P (sym is) one.holds)
      | inr later ↦ none (record { element = one.element; is_in = later; holds = one.holds })
    ])
  ]
]

-- the elements of the list that have the property
pub record Chosen {X : Type 0} (P : X → Type 0) (xs : List X) : Type 0 where
  pub list : List X
  pub are : (x : X) → Contains list x ↔ (Contains xs x × P x)

pub chosen_of : {X : Type 0} (P : X → Type 0) → ((x : X) → Decided (P x)) → (xs : List X) → Chosen P xs
chosen_of {X} P each [] = record { list = []; are = λ x. (λ has. absurd (nothing_in x has), λ both. both.0) }
chosen_of {X} P each (x ∷ xs) = at (each x) (chosen_of P each xs)
  where
    at : Decided (P x) → Chosen P xs → Chosen P (x ∷ xs)
    at (inl holds) rest = record {
      list = x ∷ rest.list;
      are = λ y. (
        λ has. elim (first_or_rest x y rest.list has) [
          | inl is ↦ (subst (Contains (x ∷ xs)) is (in_first x xs), subst P is holds)
          | inr later ↦ let both = (rest.are y).0 later in (in_rest x y xs both.0, both.1)
        ],
        λ both. elim (first_or_rest x y xs both.0) [
          | inl is ↦ subst (Contains (x ∷ rest.list)) is (in_first x rest.list)
          | inr later ↦ in_rest x y rest.list ((rest.are y).1 (later, both.1))
        ],
      );
    }
    at (inr fails) rest = record {
      list = rest.list;
      are = λ y. (
        λ has. let both = (rest.are y).0 has in (in_rest x y xs both.0, both.1),
        λ both. elim (first_or_rest x y xs both.0) [
          | inl is ↦ absurd (fails (subst P (sym is) both.1))
          | inr later ↦ (rest.are y).1 (later, both.1)
        ],
      );
    }

-- a list for each number below the count, of the numbers that the relation leads to
pub record AreRows (R : ℕ → ℕ → Type 0) (count : ℕ) (lists : List (List ℕ)) : Type 0 where
  pub each : length lists ≡ count
  pub calls : (i j : ℕ) → Calls lists i j ↔ R i j

pub rows_of : (R : ℕ → ℕ → Type 0) (count : ℕ) → ((i j : ℕ) → Decided (R i j)) → ((i j : ℕ) → R i j → (i < count) × (j < count))
    → (lists : List (List ℕ)) × AreRows R count lists
rows_of R count each within =
    let all : List ℕ = range_with_len 0 count in
    let row : (i : ℕ) → Chosen (R i) all = λ i. chosen_of (R i) (each i) all in
    let lists : List (List ℕ) = map (λ i. (row i).list) all in
    let long : length lists ≡ count = length-map-range_with_len (λ i. (row i).list) 0 count in
    let at : (i : ℕ) → i < count → slice_index_or lists i [] ≡ (row i).list =
    λ i lt. get_or-map-range_with_len (λ k. (row k).list) 0 count i i [] lt (omega arith) in (
      lists,
      record {
        each = long;
        calls = λ i j. (
          λ call. elim (cases_lt i count) [
            | inl lt ↦ (((row i).are j).0 (subst (λ xs. Contains xs j) (at i lt) call)).1
            | inr past ↦ absurd (nothing_in j (subst (λ xs. Contains xs j) (get_or_past lists i [] (omega (arith, past, long))) call))
          ],
          λ related.
              let inside = within i j related in
              subst (λ xs. Contains xs j) (sym (at i inside.0)) (((row i).are j).1 (range_has count j inside.1, related)),
        );
      },
    )
