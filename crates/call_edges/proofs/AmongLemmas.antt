-- What holds for one of a list.
use Rattle.std.proofs.Common.{◌≡◌, ◌⊎◌, ◌↔◌, inl, inr, ℕ, ◌+◌, ◌<◌, ◌≤◌, Bool, true, false, List, [], ◌∷◌, ◌++◌, Option, Some, None, length, take, get_or, map, filter, ap, sym, ◌∙◌, subst, refl}
use Rattle.std.specs.Prelude.{Contains}
use Rattle.std.specs.List.{flat_map, filter_map}
use Rattle.std.proofs.lemmas.List.{take_more, take_all, get_or_default}
use Rattle.std.proofs.lemmas.List.Elements.{Contains-append_left, Contains-append_right, Contains-append_cases, Contains-push, Contains-push_cases}
use Rattle.list_laws.proofs.OneOrder.{nothing_in, first_or_rest, in_rest, in_first}
use Rattle.call_edges.specs.Goals.{Adds}
use Rattle.call_edges.specs.Calls.{IsAmong}
use Rattle.call_edges.proofs.AddsLemmas.{adds_as, adds_then, adds_nothing}

module _ {X M : Type 0} (P : X → M → Type 0) where
  pub none_among : (m : M) → IsAmong P [] m → ⊥
  none_among m among = nothing_in among.one among.has

  pub first_or_later : (x : X) (xs : List X) (m : M) → IsAmong P (x ∷ xs) m → P x m ⊎ IsAmong P xs m
  first_or_later x xs m among =
      elim (first_or_rest x among.one xs among.has) [
        | inl same ↦ inl (subst (λ y. P y m) (sym same) among.is)
        | inr later ↦ inr (record { one = among.one; has = later; is = among.is })
      ]

  pub at_first : (x : X) (xs : List X) (m : M) → P x m → IsAmong P (x ∷ xs) m
  at_first x xs m is = record { one = x; has = in_first x xs; is = is }

  pub at_later : (x : X) (xs : List X) (m : M) → IsAmong P xs m → IsAmong P (x ∷ xs) m
  at_later x xs m among = record { one = among.one; has = in_rest x among.one xs among.has; is = among.is }

  -- one more of the list
  pub among_more : (xs : List X) (i : ℕ) (x : X) (old mid new : List M) → i < length xs → x ≡ get_or xs i x
      → Adds (IsAmong P (take i xs)) old mid → Adds (P x) mid new → Adds (IsAmong P (take (i + 1) xs)) old new
  among_more xs i x old mid new lt is first second =
      let more : take (i + 1) xs ≡ take i xs ++ x ∷ [] = take_more xs i x lt ∙ ap (λ y. take i xs ++ y ∷ []) (sym is) in
      let Q : List X → Type 0 = λ ys. Adds (IsAmong P ys) old new in
      subst Q (sym more)
      (adds_as (λ m. IsAmong P (take i xs) m ⊎ P x m) (IsAmong P (take i xs ++ x ∷ [])) old new
      (λ m either.
      elim either [
        | inl before ↦ record { one = before.one; has = Contains-append_left (take i xs) (x ∷ []) before.one before.has; is = before.is }
        | inr here ↦ record { one = x; has = Contains-push (take i xs) x; is = here }
      ])
      (λ m among.
      elim (Contains-push_cases (take i xs) x among.one among.has) [
        | inl before ↦ inl (record { one = among.one; has = before; is = among.is })
        | inr same ↦ inr (subst (λ y. P y m) (sym same) among.is)
      ])
      (adds_then (IsAmong P (take i xs)) (P x) old mid new first second))

  pub among_next : (xs : List X) (i : ℕ) (d : X) (old mid new : List M) → i < length xs
      → Adds (IsAmong P (take i xs)) old mid → Adds (P (get_or xs i d)) mid new → Adds (IsAmong P (take (i + 1) xs)) old new
  among_next xs i d old mid new lt first second = among_more xs i (get_or xs i d) old mid new lt (get_or_default xs i d (get_or xs i d) lt) first second

  -- none of the list so far
  pub among_none : (xs : List X) (old : List M) → Adds (IsAmong P (take 0 xs)) old old
  among_none xs old = adds_nothing (IsAmong P (take 0 xs)) old none_among

  -- the whole list
  pub among_all : (xs : List X) (i : ℕ) (old new : List M) → length xs ≤ i → Adds (IsAmong P (take i xs)) old new → Adds (IsAmong P xs) old new
  among_all xs i old new all adds = subst (λ (ys : List X). Adds (IsAmong P ys) old new) (take_all i xs all) adds

-- what holds for one holds as well where it implies what holds
pub among_as : {X M : Type 0} (P Q : X → M → Type 0) (xs : List X) (m : M) → ((x : X) → P x m → Q x m) → IsAmong P xs m → IsAmong Q xs m
among_as P Q xs m to among = record { one = among.one; has = among.has; is = to among.one among.is }

-- lists made of others

pub among_map : {X Y M : Type 0} (P : Y → M → Type 0) (f : X → Y) (xs : List X) (m : M) → IsAmong P (map f xs) m ↔ IsAmong (λ x. P (f x)) xs m
among_map {X} {Y} {M} P f xs m = (to xs, from xs)
  where
    to : (ys : List X) → IsAmong P (map f ys) m → IsAmong (λ x. P (f x)) ys m
    to [] among = absurd (none_among P m among)
    to (y ∷ ys) among =
        elim (first_or_later P (f y) (map f ys) m among) [
          | inl here ↦ at_first (λ x. P (f x)) y ys m here
          | inr later ↦ at_later (λ x. P (f x)) y ys m (to ys later)
        ]

    from : (ys : List X) → IsAmong (λ x. P (f x)) ys m → IsAmong P (map f ys) m
    from [] among = absurd (none_among (λ x. P (f x)) m among)
    from (y ∷ ys) among =
        elim (first_or_later (λ x. P (f x)) y ys m among) [
          | inl here ↦ at_first P (f y) (map f ys) m here
          | inr later ↦ at_later P (f y) (map f ys) m (from ys later)
        ]

pub among_append : {X M : Type 0} (P : X → M → Type 0) (xs ys : List X) (m : M) → IsAmong P (xs ++ ys) m ↔ (IsAmong P xs m ⊎ IsAmong P ys m)
among_append P xs ys m = (
  λ among.
      elim (Contains-append_cases xs ys among.one among.has) [
        | inl left ↦ inl (record { one = among.one; has = left; is = among.is })
        | inr right ↦ inr (record { one = among.one; has = right; is = among.is })
      ],
  λ either.
      elim either [
        | inl left ↦ record { one = left.one; has = Contains-append_left xs ys left.one left.has; is = left.is }
        | inr right ↦ record { one = right.one; has = Contains-append_right xs ys right.one right.has; is = right.is }
      ],
)

pub among_flat : {X Y M : Type 0} (P : Y → M → Type 0) (f : X → List Y) (xs : List X) (m : M) → IsAmong P (flat_map f xs) m ↔ IsAmong (λ x. IsAmong P (f x)) xs m
among_flat {X} {Y} {M} P f xs m = (to xs, from xs)
  where
    to : (ys : List X) → IsAmong P (flat_map f ys) m → IsAmong (λ x. IsAmong P (f x)) ys m
    to [] among = absurd (none_among P m among)
    to (y ∷ ys) among =
        elim ((among_append P (f y) (flat_map f ys) m).0 among) [
          | inl here ↦ at_first (λ x. IsAmong P (f x)) y ys m here
          | inr later ↦ at_later (λ x. IsAmong P (f x)) y ys m (to ys later)
        ]

    from : (ys : List X) → IsAmong (λ x. IsAmong P (f x)) ys m → IsAmong P (flat_map f ys) m
    from [] among = absurd (none_among (λ x. IsAmong P (f x)) m among)
    from (y ∷ ys) among =
        (among_append P (f y) (flat_map f ys) m).1
        (elim (first_or_later (λ x. IsAmong P (f x)) y ys m among) [ inl here ↦ inl here | inr later ↦ inr (from ys later) ])

-- one of those that an option gives
pub record IsGiven {Y M : Type 0} (P : Y → M → Type 0) (given : Option Y) (m : M) : Type 0 where
  pub one : Y
  pub is : given ≡ Some one
  pub holds : P one m

pub among_given : {X Y M : Type 0} (P : Y → M → Type 0) (h : X → Option Y) (xs : List X) (m : M) → IsAmong P (filter_map h xs) m ↔ IsAmong (λ x. IsGiven P (h x)) xs m
among_given {X} {Y} {M} P h xs m = (to xs, from xs)
  where
    first_given : (y : X) (ys : List X) (given : Option Y) → h y ≡ given → (IsAmong P (filter_map h ys) m → IsAmong (λ x. IsGiven P (h x)) ys m)
        → IsAmong P (filter_map h (y ∷ ys)) m → IsAmong (λ x. IsGiven P (h x)) (y ∷ ys) m
    first_given y ys (Some one) is later among =
        let now : IsAmong P (one ∷ filter_map h ys) m = rw is at among in
        elim (first_or_later P one (filter_map h ys) m now) [
          | inl here ↦ at_first (λ x. IsGiven P (h x)) y ys m (record { one = one; is = is; holds = here })
          | inr rest ↦ at_later (λ x. IsGiven P (h x)) y ys m (later rest)
        ]
    first_given y ys None is later among =
        let now : IsAmong P (filter_map h ys) m = rw is at among in
        at_later (λ x. IsGiven P (h x)) y ys m (later now)

    to : (ys : List X) → IsAmong P (filter_map h ys) m → IsAmong (λ x. IsGiven P (h x)) ys m
    to [] among = absurd (none_among P m among)
    to (y ∷ ys) among = first_given y ys (h y) refl (to ys) among

    give_first : (y : X) (ys : List X) (given : IsGiven P (h y) m) → IsAmong P (filter_map h (y ∷ ys)) m
    give_first y ys given = rw given.is (at_first P given.one (filter_map h ys) m given.holds)

    give_later : (y : X) (ys : List X) (given : Option Y) → h y ≡ given → IsAmong P (filter_map h ys) m → IsAmong P (filter_map h (y ∷ ys)) m
    give_later y ys (Some one) is among = rw is (at_later P one (filter_map h ys) m among)
    give_later y ys None is among = rw is among

    from : (ys : List X) → IsAmong (λ x. IsGiven P (h x)) ys m → IsAmong P (filter_map h ys) m
    from [] among = absurd (none_among (λ x. IsGiven P (h x)) m among)
    from (y ∷ ys) among =
        elim (first_or_later (λ x. IsGiven P (h x)) y ys m among) [
          | inl here ↦ give_first y ys here
          | inr later ↦ give_later y ys (h y) refl (from ys later)
        ]

-- an element of some of the lists
pub flat_has : {X Y : Type 0} (f : X → List Y) (xs : List X) (y : Y) → Contains (flat_map f xs) y ↔ IsAmong (λ x. Contains (f x)) xs y
flat_has {X} {Y} f xs y = (to xs, from xs)
  where
    to : (zs : List X) → Contains (flat_map f zs) y → IsAmong (λ x. Contains (f x)) zs y
    to [] has = absurd (nothing_in y has)
    to (z ∷ zs) has =
        elim (Contains-append_cases (f z) (flat_map f zs) y has) [
          | inl here ↦ at_first (λ x. Contains (f x)) z zs y here
          | inr later ↦ at_later (λ x. Contains (f x)) z zs y (to zs later)
        ]

    from : (zs : List X) → IsAmong (λ x. Contains (f x)) zs y → Contains (flat_map f zs) y
    from [] among = absurd (none_among (λ x. Contains (f x)) y among)
    from (z ∷ zs) among =
        elim (first_or_later (λ x. Contains (f x)) z zs y among) [
          | inl here ↦ Contains-append_left (f z) (flat_map f zs) y here
          | inr later ↦ Contains-append_right (f z) (flat_map f zs) y (from zs later)
        ]

-- what a function gives for some element
pub map_has : {X Y : Type 0} (f : X → Y) (xs : List X) (y : Y) → Contains (map f xs) y ↔ IsAmong (λ x y. f x ≡ y) xs y
map_has {X} {Y} f xs y = (to xs, from xs)
  where
    to : (zs : List X) → Contains (map f zs) y → IsAmong (λ x y. f x ≡ y) zs y
    to [] has = absurd (nothing_in y has)
    to (z ∷ zs) has =
        elim (first_or_rest (f z) y (map f zs) has) [
          | inl here ↦ at_first (λ x y. f x ≡ y) z zs y here
          | inr later ↦ at_later (λ x y. f x ≡ y) z zs y (to zs later)
        ]

    from : (zs : List X) → IsAmong (λ x y. f x ≡ y) zs y → Contains (map f zs) y
    from [] among = absurd (none_among (λ x y. f x ≡ y) y among)
    from (z ∷ zs) among =
        elim (first_or_later (λ x y. f x ≡ y) z zs y among) [
          | inl here ↦ subst (λ v. Contains (f z ∷ map f zs) v) here (in_first (f z) (map f zs))
          | inr later ↦ in_rest (f z) y (map f zs) (from zs later)
        ]

-- tests

pub filter_has : {X : Type 0} (p : X → Bool) (xs : List X) (x : X) → Contains (filter p xs) x ↔ (Contains xs x × (p x ≡ true))
filter_has {X} p xs x = (to xs, λ both. from xs both.0 both.1)
  where
    first_to : (y : X) (ys : List X) (b : Bool) → p y ≡ b → (Contains (filter p ys) x → Contains ys x × (p x ≡ true)) → Contains (filter p (y ∷ ys)) x
        → Contains (y ∷ ys) x × (p x ≡ true)
    first_to y ys true same later has =
        let now : Contains (y ∷ filter p ys) x = rw same at has in
        elim (first_or_rest y x (filter p ys) now) [
          | inl here ↦ (subst (λ z. Contains (y ∷ ys) z) here (in_first y ys), ap p (sym here) ∙ same)
          | inr rest ↦ let found = later rest in (in_rest y x ys found.0, found.1)
        ]
    first_to y ys false same later has =
        let now : Contains (filter p ys) x = rw same at has in
        let found = later now in (in_rest y x ys found.0, found.1)

    to : (ys : List X) → Contains (filter p ys) x → Contains ys x × (p x ≡ true)
    to [] has = absurd (nothing_in x has)
    to (y ∷ ys) has = first_to y ys (p y) refl (to ys) has

    keep : (y : X) (ys : List X) (b : Bool) → p y ≡ b → Contains (filter p ys) x → Contains (filter p (y ∷ ys)) x
    keep y ys true same has = rw same (in_rest y x (filter p ys) has)
    keep y ys false same has = rw same has

    from : (ys : List X) → Contains ys x → p x ≡ true → Contains (filter p ys) x
    from [] has is = absurd (nothing_in x has)
    from (y ∷ ys) has is =
        elim (first_or_rest y x ys has) [
          | inl here ↦
              let passes : p y ≡ true = ap p here ∙ is in
              rw passes (subst (λ z. Contains (y ∷ filter p ys) z) here (in_first y (filter p ys)))
          | inr later ↦ keep y ys (p y) refl (from ys later is)
        ]
