-- Members of lists, and of what functions give of them.
use Rattle.std.proofs.Common.{◌≡◌, ℕ, ◌<◌, Bool, true, false, List, [], ◌∷◌, ◌++◌, Some, All, Contains, length, map, filter, cond, get_or, slice_get, option_map, refl, ap, sym, ◌∙◌, subst, inl, inr}
use Rattle.std.specs.List.{list_any}
use Rattle.std.proofs.lemmas.List.{get_or_default}
use Rattle.std.proofs.lemmas.List.Elements.{All-contains, All-filter, All-contains_itself}
use Rattle.std.proofs.lemmas.List.Folds.{Any-from_list_any, list_any-from_Any}
use Rattle.std.proofs.lemmas.Option.{slice_get_within, get_or_from_slice_get, slice_get-map, slice_get_read}
use Rattle.list_laws.proofs.OneOrder.{nothing_in, first_or_rest, in_rest, in_first}

-- what is read at a place

pub stands_in : {X : Type 0} (xs : List X) (k : ℕ) (x : X) → slice_get xs k ≡ Some x → Contains xs x
stands_in xs k x at = (k, slice_get_within xs k x at, get_or_from_slice_get xs k x x at)

pub seen_there : {X Y : Type 0} (f : X → Y) (xs : List X) (i : ℕ) (x : X) → i < length xs → x ≡ get_or xs i x → slice_get (map f xs) i ≡ Some (f x)
seen_there f xs i x lt is = slice_get-map f xs i ∙ ap (option_map f) (slice_get_read xs (length xs) i x refl lt is)

-- all of a list by its members
pub all_by : {X : Type 0} (P : X → Type 0) (xs : List X) → ((x : X) → Contains xs x → P x) → All P xs
all_by P xs each k d below = each (get_or xs k d) (k, below, get_or_default xs k (get_or xs k d) d below)

-- what a function gives of members

pub map_has : {X Y : Type 0} (f : X → Y) (xs : List X) (x : X) → Contains xs x → Contains (map f xs) (f x)
map_has f [] x has = absurd (nothing_in x has)
map_has f (y ∷ xs) x has =
    elim (first_or_rest y x xs has) [
      | inl is ↦ subst (λ z. Contains (map f (y ∷ xs)) (f z)) is (in_first (f y) (map f xs))
      | inr later ↦ in_rest (f y) (f x) (map f xs) (map_has f xs x later)
    ]

pub map_from : {X Y : Type 0} (f : X → Y) (xs : List X) (y : Y) → Contains (map f xs) y → (x : X) × Contains xs x × (f x ≡ y)
map_from f [] y has = absurd (nothing_in y has)
map_from f (x ∷ xs) y has =
    elim (first_or_rest (f x) y (map f xs) has) [
      | inl is ↦ (x, in_first x xs, is)
      | inr later ↦ let from = map_from f xs y later in (from.0, in_rest x from.0 xs from.1, from.2)
    ]

-- the members that pass a test

pub any_there : {X : Type 0} (p : X → Bool) (xs : List X) (x : X) → Contains xs x → p x ≡ true → list_any p xs ≡ true
any_there p xs x has passes = list_any-from_Any p xs (has.0, x, has.1, has.2, passes)

pub any_from : {X : Type 0} (p : X → Bool) (xs : List X) → list_any p xs ≡ true → (x : X) × Contains xs x × (p x ≡ true)
any_from p xs is = let found = Any-from_list_any p xs is in (found.1, (found.0, found.2, found.3), found.4)

pub kept_there : {X : Type 0} (p : X → Bool) (xs : List X) (x : X) → Contains (filter p xs) x → Contains xs x
kept_there p xs x has = All-contains (Contains xs) (filter p xs) x (All-filter p (Contains xs) xs (All-contains_itself xs)) has

pub kept_in : {X : Type 0} (p : X → Bool) (xs : List X) (x : X) → Contains xs x → p x ≡ true → Contains (filter p xs) x
kept_in {X} p [] x has is = absurd (nothing_in x has)
kept_in {X} p (y ∷ xs) x has is =
    elim (first_or_rest y x xs has) [
      | inl same ↦
          let passes : p y ≡ true = subst (λ z. p z ≡ true) (sym same) is in
          subst (λ (b : Bool). Contains (cond b (y ∷ filter p xs) (filter p xs)) x) (sym passes) (subst (Contains (y ∷ filter p xs)) same (in_first y (filter p xs)))
      | inr later ↦ either (p y) (kept_in p xs x later is)
    ]
  where
    either : (b : Bool) → Contains (filter p xs) x → Contains (cond b (y ∷ filter p xs) (filter p xs)) x
    either true there = in_rest y x (filter p xs) there
    either false there = there
