-- Lists that are filtered and mapped.
use Rattle.std.proofs.Common.{◌≡◌, ℕ, ◌+◌, ◌<◌, Bool, true, false, ◌||◌, List, [], ◌∷◌, ◌++◌, Option, Some, None, All, AllPairs, Contains, length, map, filter, cond, take, get_or, option_map, option_to_list, refl, sym, ap, ◌∙◌, subst, inl, inr, arith, append_assoc, append-nil}
use Rattle.std.specs.List.{filter_map, cons_option, find, flat_map, list_any}
use Rattle.std.proofs.lemmas.List.Elements.{All-head, All-tail, All-contains, All-map, filter_passes, filter_map-append, filter-append}
use Rattle.std.proofs.lemmas.List.Kept.{AllPairs-cons}
use Rattle.std.proofs.lemmas.List.{map-append, take_more}
use Rattle.std.proofs.lemmas.Grind.{flat_map-append}
use Rattle.module_table.specs.Kinds.{first_of}
pub use Rattle.list_laws.proofs.Members.{all_by, any_from, any_there, kept_there, map_from, map_has}
use Rattle.list_laws.proofs.OneOrder.{nothing_in, first_or_rest, before_rest, rest_in_order}

-- none of the elements passes, or all of them

pub filter_none : {X : Type 0} (p : X → Bool) (xs : List X) → All (λ x. p x ≡ false) xs → filter p xs ≡ []
filter_none {X} p [] none = refl
filter_none {X} p (x ∷ xs) none =
    let fails : p x ≡ false = All-head (λ y. p y ≡ false) x xs none in
    ap (λ b. cond b (x ∷ filter p xs) (filter p xs)) fails ∙ filter_none p xs (All-tail (λ y. p y ≡ false) x xs none)

pub filter_all : {X : Type 0} (p : X → Bool) (xs : List X) → All (λ x. p x ≡ true) xs → filter p xs ≡ xs
filter_all {X} p [] all = refl
filter_all {X} p (x ∷ xs) all =
    let passes : p x ≡ true = All-head (λ y. p y ≡ true) x xs all in
    ap (λ b. cond b (x ∷ filter p xs) (filter p xs)) passes ∙ ap (λ ys. x ∷ ys) (filter_all p xs (All-tail (λ y. p y ≡ true) x xs all))

-- two functions that agree at each element of a list

pub map_agrees : {X Y : Type 0} (f g : X → Y) (xs : List X) → All (λ x. f x ≡ g x) xs → map f xs ≡ map g xs
map_agrees {X} {Y} f g [] same = refl
map_agrees {X} {Y} f g (x ∷ xs) same = λ i. All-head (λ y. f y ≡ g y) x xs same i ∷ map_agrees f g xs (All-tail (λ y. f y ≡ g y) x xs same) i

-- a filter of what a function gives

pub filter-map : {X Y : Type 0} (p : Y → Bool) (f : X → Y) (xs : List X) → filter p (map f xs) ≡ map f (filter (λ x. p (f x)) xs)
filter-map {X} {Y} p f [] = refl
filter-map {X} {Y} p f (x ∷ xs) = at (p (f x)) (filter-map p f xs)
  where
    at : (b : Bool) → filter p (map f xs) ≡ map f (filter (λ y. p (f y)) xs)
        → cond b (f x ∷ filter p (map f xs)) (filter p (map f xs)) ≡ map f (cond b (x ∷ filter (λ y. p (f y)) xs) (filter (λ y. p (f y)) xs))
    at true rest = ap (λ ys. f x ∷ ys) rest
    at false rest = rest

-- the members that pass a test

pub kept_passes : {X : Type 0} (p : X → Bool) (xs : List X) (x : X) → Contains (filter p xs) x → p x ≡ true
kept_passes {X} p xs x has = All-contains (λ y. p y ≡ true) (filter p xs) x (filter_passes p xs) has

-- two functions that make one list agree at its members
pub agree_at : {X Y : Type 0} (f g : X → Y) (xs : List X) (x : X) → map f xs ≡ map g xs → Contains xs x → f x ≡ g x
agree_at {X} {Y} f g [] x same has = absurd (nothing_in x has)
agree_at {X} {Y} f g (y ∷ xs) x same has =
    let first : f y ≡ g y = cc in
    let rest : map f xs ≡ map g xs = cc in
    elim (first_or_rest y x xs has) [
      | inl is ↦ subst (λ z. f z ≡ g z) is first
      | inr later ↦ agree_at f g xs x rest later
    ]

-- what a function gives of what another gives

pub filter_map-map : {X Y Z : Type 0} (g : Y → Option Z) (f : X → Y) (xs : List X) → filter_map g (map f xs) ≡ filter_map (λ x. g (f x)) xs
filter_map-map {X} {Y} {Z} g f [] = refl
filter_map-map {X} {Y} {Z} g f (x ∷ xs) = ap (cons_option (g (f x))) (filter_map-map g f xs)

pub filter_map_agrees : {X Y : Type 0} (f g : X → Option Y) → ((x : X) → f x ≡ g x) → (xs : List X) → filter_map f xs ≡ filter_map g xs
filter_map_agrees {X} {Y} f g same [] = refl
filter_map_agrees {X} {Y} f g same (x ∷ xs) = λ i. cons_option (same x i) (filter_map_agrees f g same xs i)

pub filter_map_push : {X Y : Type 0} (g : X → Option Y) (xs : List X) (x : X) → filter_map g (xs ++ x ∷ []) ≡ filter_map g xs ++ option_to_list (g x)
filter_map_push {X} {Y} g xs x = filter_map-append g xs (x ∷ []) ∙ ap (λ ys. filter_map g xs ++ ys) (one (g x))
  where
    one : (r : Option Y) → cons_option r [] ≡ option_to_list r
    one (Some y) = refl
    one None = refl

-- pairs of what a function gives
pub all_pairs_map : {X Y : Type 0} (R : Y → Y → Type 0) (f : X → Y) (xs : List X) → AllPairs (λ a b. R (f a) (f b)) xs → AllPairs R (map f xs)
all_pairs_map {X} {Y} R f [] up = λ i j d lt within. absurd (omega (arith, within))
all_pairs_map {X} {Y} R f (x ∷ xs) up =
    AllPairs-cons R (f x) (map f xs)
    (All-map (R (f x)) f xs (all_by (λ y. R (f x) (f y)) xs (λ y has. before_rest (λ a b. R (f a) (f b)) x y xs up has)))
    (all_pairs_map R f xs (rest_in_order (λ a b. R (f a) (f b)) x xs up))

-- the first one

pub first-map : {X Y : Type 0} (f : X → Y) (xs : List X) → first_of (map f xs) ≡ option_map f (first_of xs)
first-map {X} {Y} f [] = refl
first-map {X} {Y} f (x ∷ xs) = refl

pub first-filter : {X : Type 0} (p : X → Bool) (xs : List X) → first_of (filter p xs) ≡ find p xs
first-filter {X} p [] = refl
first-filter {X} p (x ∷ xs) = at (p x) (first-filter p xs)
  where
    at : (b : Bool) → first_of (filter p xs) ≡ find p xs → first_of (cond b (x ∷ filter p xs) (filter p xs)) ≡ cond b (Some x) (find p xs)
    at true rest = refl
    at false rest = rest

-- whether an element passes

pub any-map : {X Y : Type 0} (p : Y → Bool) (f : X → Y) (xs : List X) → list_any p (map f xs) ≡ list_any (λ x. p (f x)) xs
any-map {X} {Y} p f [] = refl
any-map {X} {Y} p f (x ∷ xs) = ap (λ b. p (f x) || b) (any-map p f xs)

pub any_agrees : {X : Type 0} (p q : X → Bool) → ((x : X) → p x ≡ q x) → (xs : List X) → list_any p xs ≡ list_any q xs
any_agrees {X} p q same [] = refl
any_agrees {X} p q same (x ∷ xs) = λ i. same x i || any_agrees p q same xs i

pub any_none : {X : Type 0} (p : X → Bool) (xs : List X) → list_any p xs ≡ false → All (λ x. p x ≡ false) xs
any_none {X} p xs is = all_by (λ x. p x ≡ false) xs each
  where
    at : (x : X) (b : Bool) → p x ≡ b → Contains xs x → b ≡ false
    at x true passes has = sym (any_there p xs x has passes) ∙ is
    at x false other has = refl

    each : (x : X) → Contains xs x → p x ≡ false
    each x has = at x (p x) refl has

-- lists of the same elements
pub any_same : {X : Type 0} (p : X → Bool) (xs ys : List X) → All (Contains ys) xs → All (Contains xs) ys → list_any p xs ≡ list_any p ys
any_same {X} p xs ys there back = at (list_any p xs) (list_any p ys) (over xs ys there) (over ys xs back)
  where
    over : (vs ws : List X) → All (Contains ws) vs → list_any p vs ≡ true → list_any p ws ≡ true
    over vs ws all is = let from = any_from p vs is in any_there p ws from.0 (All-contains (Contains ws) vs from.0 all from.1) from.2

    at : (a b : Bool) → (a ≡ true → b ≡ true) → (b ≡ true → a ≡ true) → a ≡ b
    at true b to from = sym (to refl)
    at false true to from = from refl
    at false false to from = refl

-- what the elements give, one after another

pub flat_map_next : {X Y : Type 0} (f : X → List Y) (xs : List X) (i : ℕ) (x : X) → i < length xs → x ≡ get_or xs i x → flat_map f (take (i + 1) xs) ≡ flat_map f (take i xs) ++ f x
flat_map_next {X} {Y} f xs i x within here =
    ap (flat_map f) (take_more xs i x within)
    ∙ (flat_map-append f (take i xs) (get_or xs i x ∷ []) ∙ ap (λ ys. flat_map f (take i xs) ++ ys) (append-nil (f (get_or xs i x)) ∙ ap f (sym here)))

pub given_more : {X Y : Type 0} (f : X → List Y) (xs : List X) (i : ℕ) (x : X) (before now next : List Y) → i < length xs → x ≡ get_or xs i x → now ≡ before ++ flat_map f (take i xs) → next ≡ now ++ f x
    → next ≡ before ++ flat_map f (take (i + 1) xs)
given_more {X} {Y} f xs i x before now next within here so_far more =
    more
    ∙ (ap (λ ys. ys ++ f x) so_far
    ∙ (append_assoc before (flat_map f (take i xs)) (f x) ∙ ap (λ ys. before ++ ys) (sym (flat_map_next f xs i x within here))))

pub kept_next : {X Y : Type 0} (p : Y → Bool) (f : X → List Y) (xs : List X) (i : ℕ) (x : X) → i < length xs → x ≡ get_or xs i x
    → filter p (flat_map f (take (i + 1) xs)) ≡ filter p (flat_map f (take i xs)) ++ filter p (f x)
kept_next {X} {Y} p f xs i x within here = ap (filter p) (flat_map_next f xs i x within here) ∙ filter-append p (flat_map f (take i xs)) (f x)

-- what a function gives of those that pass, with one more of which the test is known

kept_take : {X : Type 0} (p : X → Bool) (xs : List X) (i : ℕ) (x : X) → i < length xs → x ≡ get_or xs i x → filter p (take (i + 1) xs) ≡ filter p (take i xs) ++ cond (p x) (x ∷ []) []
kept_take {X} p xs i x within here =
    ap (filter p) (take_more xs i x within)
    ∙ (filter-append p (take i xs) (get_or xs i x ∷ []) ∙ ap (λ y. filter p (take i xs) ++ filter p (y ∷ [])) (sym here))

pub passed_over : {X Y : Type 0} (p : X → Bool) (f : X → Y) (q : Y → Bool) (xs : List X) (i : ℕ) (x : X) → i < length xs → x ≡ get_or xs i x → p x ≡ false
    → filter q (map f (filter p (take i xs))) ≡ filter q (map f (filter p (take (i + 1) xs)))
passed_over {X} {Y} p f q xs i x within here fails =
    ap (λ ys. filter q (map f ys))
    (sym (kept_take p xs i x within here ∙ (ap (λ b. filter p (take i xs) ++ cond b (x ∷ []) []) fails ∙ append-nil (filter p (take i xs)))))

pub passed : {X Y : Type 0} (p : X → Bool) (f : X → Y) (q : Y → Bool) (xs : List X) (i : ℕ) (x : X) → i < length xs → x ≡ get_or xs i x → p x ≡ true
    → filter q (map f (filter p (take i xs))) ++ filter q (f x ∷ []) ≡ filter q (map f (filter p (take (i + 1) xs)))
passed {X} {Y} p f q xs i x within here passes =
    sym
    (ap (λ ys. filter q (map f ys)) (kept_take p xs i x within here ∙ ap (λ b. filter p (take i xs) ++ cond b (x ∷ []) []) passes)
    ∙ (ap (filter q) (map-append f (filter p (take i xs)) (x ∷ [])) ∙ filter-append q (map f (filter p (take i xs))) (f x ∷ [])))
