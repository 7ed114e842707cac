-- Digits of a base.
use Rattle.std.specs.Prelude.{◌≡◌, ℕ, zero, suc, ◌+◌, ◌*◌, ◌<◌, ◌≤◌, List, length, slice_index}
use Rattle.std.specs.Char.{digit_value}

-- digits of the base from one place up to another, one or more
pub record IsDigits (base : ℕ) (text : List ℕ) (a b : ℕ) : Type 0 where
  pub some : a < b
  pub within : b ≤ length text
  pub digits : (k : ℕ) → a ≤ k → k < b → digit_value (slice_index text k) < base

-- the number that so many digits from a place on write
abbrev pub number_at : ℕ → List ℕ → ℕ → ℕ → ℕ
number_at base text a zero = 0
number_at base text a (suc count) = number_at base text a count * base + digit_value (slice_index text (a + count))

-- the number that the digits from one place up to another write
pub record Writes (base : ℕ) (text : List ℕ) (a b n : ℕ) : Type 0 where
  pub digits : IsDigits base text a b
  pub count : ℕ
  pub ends : b ≡ a + count
  pub is : n ≡ number_at base text a count
