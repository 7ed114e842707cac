-- Elements of lists, of lists that are made of others, and of parts of lists.
use Rattle.std.proofs.Common.{◌≡◌, ℕ, ◌+◌, ◌<◌, ◌⊎◌, List, [], ◌∷◌, ◌++◌, Some, slice_get, length, take, get_or, Contains, sym, subst, ◌∙◌, ap, inl, inr, arith}
use Rattle.std.proofs.lemmas.Bool.{cases_lt}
use Rattle.std.proofs.lemmas.Cmp.{nat_list_cmp_total, tied_itself}
use Rattle.std.proofs.lemmas.List.{take_more}
use Rattle.std.proofs.lemmas.List.Elements.{Contains-push, Contains-push_cases, Contains-append_left}
use Rattle.std.proofs.lemmas.Option.{slice_get_within, slice_get-get_or, get_or_from_slice_get}
use Rattle.loop_report.specs.ModuleGraph.{AreRising}

-- there is an element at each place
-- and an element has a place
pub place_there : {X : Type 0} (xs : List X) (x : X) (has : Contains xs x) → slice_get xs has.0 ≡ Some x
place_there {X} xs x (k, lt, is) = slice_get-get_or xs k x lt ∙ ap (λ y. Some y) is

-- an element of one item more
pub more_cases : {X : Type 0} (xs : List X) (i : ℕ) (x y : X) → i < length xs → x ≡ get_or xs i x → Contains (take (i + 1) xs) y
    → Contains (take i xs) y ⊎ (x ≡ y)
more_cases {X} xs i x y lt is has =
    let P : List X → Type 0 = λ ys. Contains ys y in
    Contains-push_cases (take i xs) x y (subst P (take_more xs i x lt ∙ ap (λ z. take i xs ++ z ∷ []) (sym is)) has)

pub more_old : {X : Type 0} (xs : List X) (i : ℕ) (x y : X) → i < length xs → Contains (take i xs) y → Contains (take (i + 1) xs) y
more_old {X} xs i x y lt has =
    let P : List X → Type 0 = λ ys. Contains ys y in
    subst P (sym (take_more xs i x lt)) (Contains-append_left (take i xs) (get_or xs i x ∷ []) y has)

pub more_new : {X : Type 0} (xs : List X) (i : ℕ) (x : X) → i < length xs → x ≡ get_or xs i x → Contains (take (i + 1) xs) x
more_new {X} xs i x lt is =
    let P : List X → Type 0 = λ ys. Contains ys x in
    subst P (sym (take_more xs i x lt ∙ ap (λ z. take i xs ++ z ∷ []) (sym is))) (Contains-push (take i xs) x)

-- a name among rising ones has one place
not_before : (names : List (List ℕ)) (name : List ℕ) (p q : ℕ) → AreRising names → slice_get names p ≡ Some name → slice_get names q ≡ Some name → p < q → ⊥
not_before names name p q up at_p at_q lt =
    let less = up p q name lt (slice_get_within names q name at_q) in
    let one = get_or_from_slice_get names p name name at_p in
    let two = get_or_from_slice_get names q name name at_q in
    let tie = tied_itself nat_list_cmp_total name in
    cc

pub one_place : (names : List (List ℕ)) (name : List ℕ) (p q : ℕ) → AreRising names → slice_get names p ≡ Some name → slice_get names q ≡ Some name → p ≡ q
one_place names name p q up at_p at_q =
    elim (cases_lt p q) [
      | inl lt ↦ absurd (not_before names name p q up at_p at_q lt)
      | inr ge ↦
          elim (cases_lt q p) [
            | inl lt ↦ absurd (not_before names name q p up at_q at_p lt)
            | inr le ↦ omega arith
          ]
    ]
