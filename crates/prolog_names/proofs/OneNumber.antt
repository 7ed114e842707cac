-- A name that isn't empty has one number, and the known names have the same one in each table.
use Rattle.std.proofs.Common.{◌≡◌, ◌≢◌, ℕ, ◌<◌, ◌≤◌, inl, inr, List, [], length, sym, ap, ◌∙◌, arith}
use Rattle.std.proofs.lemmas.Bool.{cases_lt}
use Rattle.std.proofs.lemmas.List.{get_or_append_left, get_or_past}
use Rattle.prolog_names.specs.Names.{name_at, AreDistinct, IsOpened, known_names}

-- what isn't empty stands among the names
named_within : (names : List (List ℕ)) (number : ℕ) → name_at names number ≢ [] → number < length names
named_within names number some =
    elim (cases_lt number (length names)) [
      | inl below ↦ below
      | inr from ↦ absurd (some (get_or_past names number [] from))
    ]

pub one_number : (names : List (List ℕ)) → AreDistinct names → (a b : ℕ) → name_at names a ≡ name_at names b → name_at names b ≢ [] → a ≡ b
one_number names distinct a b same some =
    distinct a b (named_within names a (λ none. some (sym same ∙ none))) (named_within names b some) same

pub known_at : (names : List (List ℕ)) → IsOpened names → (k : ℕ) → k < length known_names → name_at names k ≡ name_at known_names k
known_at names opened k below = ap (λ ns. name_at ns k) opened.1 ∙ get_or_append_left known_names opened.0 [] k below

pub others_apart : (names : List (List ℕ)) → IsOpened names → ((a b : ℕ) → name_at names a ≡ name_at names b → name_at names b ≢ [] → a ≡ b)
    → (number k : ℕ) → length known_names ≤ number → name_at names number ≢ [] → k < length known_names → name_at known_names k ≢ name_at names number
others_apart names opened only number k from some below same =
    let one : k ≡ number = only k number (known_at names opened k below ∙ same) some in omega (arith, one, from, below)
