-- What is known to hold or not to hold, and what is known to be there or not.
use Rattle.std.proofs.Common.{◌≡◌, ◌⊎◌, inl, inr, ℕ, zero, suc, ◌<◌, Bool, true, false, List, [], ◌∷◌, All, AllPairs, refl, subst, arith}
use Rattle.std.proofs.lemmas.Bool.{cases_eq}
use Rattle.std.proofs.lemmas.List.Elements.{All-cons, All-head, All-nil, All-tail}
use Rattle.std.proofs.lemmas.List.Kept.{AllPairs-cons}
use Rattle.list_laws.proofs.OneOrder.{before_rest, rest_in_order}
use Rattle.list_laws.proofs.Members.{all_by}

-- it holds, or it doesn't
abbrev pub IsKnown : Type 0 → Type 0
IsKnown A = A ⊎ (A → ⊥)

-- it holds of something, or of nothing
abbrev pub IsFound : {A : Type 0} → (A → Type 0) → Type 0
IsFound {A = A} P = ((x : A) × P x) ⊎ ((x : A) → P x → ⊥)

pub known_bool : (b c : Bool) → IsKnown (b ≡ c)
known_bool true true = inl refl
known_bool true false = inr (λ e. let both : true ≡ false = e in cc)
known_bool false true = inr (λ e. let both : false ≡ true = e in cc)
known_bool false false = inl refl

pub known_if : {A B : Type 0} → IsKnown A → IsKnown B → IsKnown (A → B)
known_if (inr never) b = inl (λ a. absurd (never a))
known_if (inl a) (inl b) = inl (λ given. b)
known_if (inl a) (inr never) = inr (λ f. never (f a))

pub known_both : {A B : Type 0} → IsKnown A → IsKnown B → IsKnown (A × B)
known_both (inr never) b = inr (λ both. never both.0)
known_both (inl a) (inr never) = inr (λ both. never both.1)
known_both (inl a) (inl b) = inl (a, b)

pub known_either : {A B : Type 0} → IsKnown A → IsKnown B → IsKnown (A ⊎ B)
known_either (inl a) b = inl (inl a)
known_either (inr never) (inl b) = inl (inr b)
known_either (inr never) (inr none) = inr (λ either. elim either [ inl a ↦ never a | inr b ↦ none b ])

pub known_as : {A B : Type 0} → (A → B) → (B → A) → IsKnown A → IsKnown B
known_as to from (inl a) = inl (to a)
known_as to from (inr never) = inr (λ b. never (from b))

pub known_all : {A : Type 0} (P : A → Type 0) → ((x : A) → IsKnown (P x)) → (xs : List A) → IsKnown (All P xs)
known_all P known [] = inl (All-nil P)
known_all {A = A} P known (x ∷ xs) = go (known x) (known_all P known xs)
  where
    go : IsKnown (P x) → IsKnown (All P xs) → IsKnown (All P (x ∷ xs))
    go (inr never) rest = inr (λ all. never (All-head P x xs all))
    go (inl first) (inr never) = inr (λ all. never (All-tail P x xs all))
    go (inl first) (inl rest) = inl (All-cons P x xs first rest)

pub known_pairs : {A : Type 0} (R : A → A → Type 0) → ((x y : A) → IsKnown (R x y)) → (xs : List A) → IsKnown (AllPairs R xs)
known_pairs R known [] = inl (λ i j d lt within. absurd (omega (arith, within)))
known_pairs {A = A} R known (x ∷ xs) = go (known_all (R x) (known x) xs) (known_pairs R known xs)
  where
    go : IsKnown (All (R x) xs) → IsKnown (AllPairs R xs) → IsKnown (AllPairs R (x ∷ xs))
    go (inr never) rest = inr (λ all. never (all_by (R x) xs (λ y has. before_rest R x y xs all has)))
    go (inl first) (inr never) = inr (λ all. never (rest_in_order R x xs all))
    go (inl first) (inl rest) = inl (AllPairs-cons R x xs first rest)

-- numbers below a bound

-- the least number for which it holds
pub record IsFirst (P : ℕ → Type 0) (bound n : ℕ) : Type 0 where
  pub below : n < bound
  pub holds : P n
  pub before : (k : ℕ) → k < n → P k → ⊥

-- it holds for no number below the bound
abbrev pub HoldsNowhere : (ℕ → Type 0) → ℕ → Type 0
HoldsNowhere P bound = (k : ℕ) → k < bound → P k → ⊥

pub first_below : (P : ℕ → Type 0) → ((k : ℕ) → IsKnown (P k)) → (bound : ℕ) → ((n : ℕ) × IsFirst P bound n) ⊎ HoldsNowhere P bound
first_below P known zero = inr (λ k lt holds. omega (arith, lt))
first_below P known (suc bound) = go (first_below P known bound) (known bound)
  where
    nowhere : HoldsNowhere P bound → (P bound → ⊥) → HoldsNowhere P (suc bound)
    nowhere none never k lt holds = elim (cases_eq k bound) [
      | inl is ↦ never (subst P is holds)
      | inr other ↦ none k (omega (arith, lt, other)) holds
    ]

    go : ((n : ℕ) × IsFirst P bound n) ⊎ HoldsNowhere P bound → IsKnown (P bound) → ((n : ℕ) × IsFirst P (suc bound) n) ⊎ HoldsNowhere P (suc bound)
    go (inl found) here = let lt = found.1.below in inl (found.0, record { below = omega (arith, lt); holds = found.1.holds; before = found.1.before })
    go (inr none) (inl holds) = inl (bound, record { below = omega arith; holds = holds; before = none })
    go (inr none) (inr never) = inr (nowhere none never)

pub known_not : {A : Type 0} → IsKnown A → IsKnown (A → ⊥)
known_not (inl a) = inr (λ never. never a)
known_not (inr never) = inl never

-- what is known to hold not nowhere holds
pub known_holds : {A : Type 0} → IsKnown A → ((A → ⊥) → ⊥) → A
known_holds (inl a) not_never = a
known_holds (inr never) not_never = absurd (not_never never)

-- it holds for each number below the bound
pub known_below : (P : ℕ → Type 0) → ((k : ℕ) → IsKnown (P k)) → (bound : ℕ) → IsKnown ((k : ℕ) → k < bound → P k)
known_below P known bound = go (first_below (λ k. P k → ⊥) (λ k. known_not (known k)) bound)
  where
    go : ((n : ℕ) × IsFirst (λ k. P k → ⊥) bound n) ⊎ HoldsNowhere (λ k. P k → ⊥) bound → IsKnown ((k : ℕ) → k < bound → P k)
    go (inl found) = inr (λ all. found.1.holds (all found.0 found.1.below))
    go (inr none) = inl (λ k lt. known_holds (known k) (none k lt))
