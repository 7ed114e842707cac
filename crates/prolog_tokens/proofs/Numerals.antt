-- The number that digits write, as it grows digit by digit.
use Rattle.std.proofs.Common.{◌≡◌, ℕ, suc, ◌+◌, ◌-◌, ◌*◌, ◌<◌, ◌≤◌, List, get_or, ap, sym, ◌∙◌, inl, inr, arith}
use Rattle.std.specs.Prelude.{min}
use Rattle.std.specs.Char.{digit_value}
use Rattle.std.proofs.lemmas.Bool.{cases_lt}
use Rattle.std.proofs.Math.Nat.{mul-le-mul_left}
use Rattle.prolog_tokens.specs.Digits.{number_at}

-- one digit more
pub number_more : (base : ℕ) (text : List ℕ) (a k : ℕ) → a ≤ k → number_at base text a (k + 1 - a) ≡ number_at base text a (k - a) * base + digit_value (get_or text k 0)
number_more base text a k from =
    let next : k + 1 - a ≡ suc (k - a) = omega arith in
    let place : a + (k - a) ≡ k = omega arith in
    ap (λ n. number_at base text a n) next ∙ ap (λ n. number_at base text a (k - a) * base + digit_value (get_or text n 0)) place

-- the number may be capped after each digit
pub capped_step : (cap base n d : ℕ) → 0 < base → min (min n cap * base + d) cap ≡ min (n * base + d) cap
capped_step cap base n d some = elim (cases_lt n cap) [
  | inl lt ↦ let is : min n cap ≡ n = omega arith in ap (λ m. min (m * base + d) cap) is
  | inr le ↦
      let is : min n cap ≡ cap = omega arith in
      let low : cap * 1 ≤ cap * base = mul-le-mul_left cap some in
      let high : n * 1 ≤ n * base = mul-le-mul_left n some in
      let first : min (cap * base + d) cap ≡ cap = omega arith in
      let second : min (n * base + d) cap ≡ cap = omega arith in
      ap (λ m. min (m * base + d) cap) is ∙ first ∙ sym second
]
