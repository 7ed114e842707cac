-- Numbers that options are given.
use Rattle.std.proofs.Common.{◌⊎◌, inl, inr, ℕ, ◌<◌, ◌≤◌, true, List, Option, Some, None, IsTrue, All, length, refl, arith}
use Rattle.std.specs.Str.Parse.{digits_value}
use Rattle.std.proofs.lemmas.Bool.{cases_lt}
use Rattle.argument_numbers.specs.Numbers.{IsNumber, IsNumberIn, is_digit}
use Rattle.group_words.specs.Settings.{JobsAre, MakeIs, SearchesAre}
use Rattle.laws.proofs.Known.{IsFound, IsKnown, known_all, known_bool}

known_number : (text : List ℕ) → IsKnown (IsNumber text)
known_number text = go (cases_lt 0 (length text)) (cases_lt 20 (length text)) (known_all (λ b. IsTrue (is_digit b)) (λ b. known_bool (is_digit b) true) text)
  where
    go : (0 < length text) ⊎ (length text ≤ 0) → (20 < length text) ⊎ (length text ≤ 20) → IsKnown (All (λ b. IsTrue (is_digit b)) text) → IsKnown (IsNumber text)
    go (inr none) few digits = inr (λ is. omega (arith, none, is.some))
    go (inl some) (inl many) digits = inr (λ is. omega (arith, many, is.few))
    go (inl some) (inr few) (inr never) = inr (λ is. never is.digits)
    go (inl some) (inr few) (inl digits) = inl (record { some = omega (arith, some); few = few; digits = digits })

number_found : (low high : ℕ) (text : List ℕ) → IsFound (IsNumberIn low high text)
number_found low high text = go (known_number text) (cases_lt (digits_value 10 text) low) (cases_lt high (digits_value 10 text))
  where
    go : IsKnown (IsNumber text) → (digits_value 10 text < low) ⊎ (low ≤ digits_value 10 text) → (high < digits_value 10 text) ⊎ (digits_value 10 text ≤ high)
        → IsFound (IsNumberIn low high text)
    go (inr never) below above = inr (λ n is. never is.number)
    go (inl number) (inl below) above = inr (λ n is. omega (arith, below, is.is, is.least))
    go (inl number) (inr least) (inl above) = inr (λ n is. omega (arith, above, is.is, is.most))
    go (inl number) (inr least) (inr most) = inl (digits_value 10 text, record { number = number; is = refl; least = least; most = most })

pub jobs_found : (given : Option (List ℕ)) → IsFound (JobsAre given)
jobs_found None = inl (1, refl)
jobs_found (Some text) = number_found 1 64 text

pub make_found : (given : Option (List ℕ)) → IsFound (MakeIs given)
make_found None = inl (None, tt)
make_found (Some text) = go (number_found 1 100000 text)
  where
    none : ((n : ℕ) → IsNumberIn 1 100000 text n → ⊥) → (make : Option ℕ) → MakeIs (Some text) make → ⊥
    none never None is = is
    none never (Some count) is = never count is

    go : IsFound (IsNumberIn 1 100000 text) → IsFound (MakeIs (Some text))
    go (inl found) = inl (Some found.0, found.1)
    go (inr never) = inr (none never)

pub searches_found : (searches seed : Option (List ℕ)) → IsFound (SearchesAre searches seed)
searches_found None None = inl (None, tt)
searches_found None (Some seed) = inr (λ both are. are)
searches_found (Some searches) None = inr (λ both are. are)
searches_found (Some searches) (Some seed) = go (number_found 1 64 searches) (number_found 0 18446744073709551615 seed)
  where
    no_count : ((n : ℕ) → IsNumberIn 1 64 searches n → ⊥) → (both : Option (ℕ × ℕ)) → SearchesAre (Some searches) (Some seed) both → ⊥
    no_count never None are = are
    no_count never (Some both) are = never both.0 are.0

    no_start : ((n : ℕ) → IsNumberIn 0 18446744073709551615 seed n → ⊥) → (both : Option (ℕ × ℕ)) → SearchesAre (Some searches) (Some seed) both → ⊥
    no_start never None are = are
    no_start never (Some both) are = never both.1 are.1

    go : IsFound (IsNumberIn 1 64 searches) → IsFound (IsNumberIn 0 18446744073709551615 seed) → IsFound (SearchesAre (Some searches) (Some seed))
    go (inr never) start = inr (no_count never)
    go (inl count) (inr never) = inr (no_start never)
    go (inl count) (inl start) = inl (Some (count.0, start.0), (count.1, start.1))
