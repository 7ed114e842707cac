-- What is known to hold or not to hold, and what is known to be there or not.
use Rattle.std.proofs.Common.{◌≡◌, ◌⊎◌, inl, inr, Bool, true, false, List, [], ◌∷◌, Option, Some, None, All, refl}
use Rattle.std.proofs.lemmas.List.Elements.{All-cons, All-head, All-nil, All-tail}

-- it holds, or it doesn't
abbrev pub IsKnown : Type 0 → Type 0
IsKnown A = A ⊎ (A → ⊥)

-- it holds of something, or of nothing
abbrev pub IsFound : {A : Type 0} → (A → Type 0) → Type 0
IsFound {A = A} P = ((x : A) × P x) ⊎ ((x : A) → P x → ⊥)

pub known_bool : (b c : Bool) → IsKnown (b ≡ c)
known_bool true true = inl refl
known_bool true false = inr (λ e. let both : true ≡ false = e in cc)
known_bool false true = inr (λ e. let both : false ≡ true = e in cc)
known_bool false false = inl refl

pub known_none : {A : Type 0} (o : Option A) → IsKnown (o ≡ None)
known_none None = inl refl
known_none (Some x) = inr (λ e. let both : Some x ≡ None = e in cc)

-- what follows where a list is empty, and what where it isn't
pub empty_or_not : {A B C : Type 0} (xs : List A) → (xs ≡ [] → B) → ((xs ≡ [] → ⊥) → C) → B ⊎ C
empty_or_not [] none some = inl (none refl)
empty_or_not (x ∷ xs) none some = inr (some (λ e. let both : x ∷ xs ≡ [] = e in cc))

pub known_empty : {A : Type 0} (xs : List A) → IsKnown (xs ≡ [])
known_empty xs = empty_or_not xs (λ is. is) (λ some. some)

pub known_not : {A : Type 0} → IsKnown A → IsKnown (A → ⊥)
known_not (inl a) = inr (λ never. never a)
known_not (inr never) = inl never

pub known_if : {A B : Type 0} → IsKnown A → IsKnown B → IsKnown (A → B)
known_if (inr never) b = inl (λ a. absurd (never a))
known_if (inl a) (inl b) = inl (λ given. b)
known_if (inl a) (inr never) = inr (λ f. never (f a))

pub known_both : {A B : Type 0} → IsKnown A → IsKnown B → IsKnown (A × B)
known_both (inr never) b = inr (λ both. never both.0)
known_both (inl a) (inr never) = inr (λ both. never both.1)
known_both (inl a) (inl b) = inl (a, b)

pub known_all : {A : Type 0} (P : A → Type 0) → ((x : A) → IsKnown (P x)) → (xs : List A) → IsKnown (All P xs)
known_all P known [] = inl (All-nil P)
known_all {A = A} P known (x ∷ xs) = go (known x) (known_all P known xs)
  where
    go : IsKnown (P x) → IsKnown (All P xs) → IsKnown (All P (x ∷ xs))
    go (inr never) rest = inr (λ all. never (All-head P x xs all))
    go (inl first) (inr never) = inr (λ all. never (All-tail P x xs all))
    go (inl first) (inl rest) = inl (All-cons P x xs first rest)
