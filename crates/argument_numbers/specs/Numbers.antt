-- Numbers as arguments write them.
use Rattle.std.specs.Prelude.{◌≡◌, ℕ, ◌≤◌, ◌&&◌, Bool, nat_le, List, length, All, IsTrue}
use Rattle.std.specs.Str.Parse.{digits_value}

abbrev pub is_digit : ℕ → Bool
is_digit b = nat_le 48 b && nat_le b 57

-- one digit to twenty
pub record IsNumber (text : List ℕ) : Type 0 where
  pub some : 1 ≤ length text
  pub few : length text ≤ 20
  pub digits : All (λ b. IsTrue (is_digit b)) text

-- the text writes the number, which lies between these two
pub record IsNumberIn (low high : ℕ) (text : List ℕ) (n : ℕ) : Type 0 where
  pub number : IsNumber text
  pub is : n ≡ digits_value 10 text
  pub least : low ≤ n
  pub most : n ≤ high
