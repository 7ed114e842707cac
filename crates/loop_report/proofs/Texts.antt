-- Texts that grow line by line.
use Rattle.std.proofs.Common.{◌≡◌, ℕ, ◌+◌, ◌<◌, List, [], ◌∷◌, ◌++◌, take, length, get_or, sym, ◌∙◌, ap}
use Rattle.std.specs.Fmt.{decimal}
use Rattle.std.specs.List.{flat_map}
use Rattle.std.proofs.lemmas.Fmt.{decimal_digit}
use Rattle.std.proofs.lemmas.List.{take_more, flat_map_more}

-- one more text after those so far
pub texts_more : {X : Type 0} (f : X → List ℕ) (head before after : List ℕ) (xs : List X) (i : ℕ) (x : X) → i < length xs → x ≡ get_or xs i x
    → before ≡ head ++ flat_map f (take i xs) → after ≡ before ++ f x → after ≡ head ++ flat_map f (take (i + 1) xs)
texts_more {X} f head before after xs i x lt is before_is after_is =
    after_is ∙ ap (λ text. text ++ f x) before_is ∙ flat_map_more f head (take i xs) x
    ∙ ap (λ ys. head ++ flat_map f ys) (ap (λ y. take i xs ++ y ∷ []) is ∙ sym (take_more xs i x lt))

-- a stroke and the digit of a number that has one
pub one_digit : (n d : ℕ) → n ≡ d → d < 10 → ◌≡◌ {A = List ℕ} (47 ∷ (48 + d) ∷ []) (47 ∷ decimal n)
one_digit n d is small = ap (λ xs. 47 ∷ xs) (sym (ap decimal is ∙ decimal_digit d small))
