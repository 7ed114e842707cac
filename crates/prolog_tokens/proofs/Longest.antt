-- The longest digits, exponents, fractions and codes at a place.
use Rattle.std.proofs.Common.{◌≡◌, ◌≢◌, ℕ, ◌+◌, ◌-◌, ◌<◌, ◌≤◌, List, length, Some, true, get_or, sym, ◌∙◌, subst, refl, inl, inr, arith}
use Rattle.std.specs.Char.{digit_value}
use Rattle.std.proofs.lemmas.Bool.{cases_lt}
use Rattle.std.proofs.lemmas.Bool.Decides.{nat_tests}
use Rattle.prolog_tokens.specs.Digits.{IsDigits, Writes, number_at}
use Rattle.prolog_tokens.specs.Numbers.{Code, doubled, escaped, itself, IsCode, is_exponent_mark, IsExponent, IsFraction}
use Rattle.prolog_tokens.proofs.Once.{SameEnd, escape_once}
use Rattle.prolog_tokens.proofs.OneToken.{exponent_from}
use Rattle.prolog_tokens.proofs.Pieces.{char_once}

-- all the digits of a base from one place on, up to another
pub record AreDigits (base : ℕ) (text : List ℕ) (a b : ℕ) : Type 0 where
  pub from : a ≤ b
  pub within : b ≤ length text
  pub digits : (k : ℕ) → a ≤ k → k < b → digit_value (get_or text k 0) < base
  pub stops : base ≤ digit_value (get_or text b 0)

pub digits_longest : (base : ℕ) (text : List ℕ) (a b e : ℕ) → AreDigits base text a b → IsDigits base text a e → e ≤ b
digits_longest base text a b e are digits = elim (cases_lt b e) [
  | inl lt ↦ absurd (omega (arith, digits.digits b are.from lt, are.stops))
  | inr le ↦ le
]

-- they are digits, where they are some,
pub some_digits : (base : ℕ) (text : List ℕ) (a b : ℕ) → AreDigits base text a b → a ≢ b → IsDigits base text a b
some_digits base text a b are ne = record { some = omega (arith, are.from); within = are.within; digits = are.digits }

-- and write a number
pub digits_write : (base : ℕ) (text : List ℕ) (a b : ℕ) → IsDigits base text a b → Writes base text a b (number_at base text a (b - a))
digits_write base text a b digits = record { digits = digits; count = b - a; ends = omega (arith, digits.some); is = refl }

mark_no_digit : (v : ℕ) → is_exponent_mark v ≡ true → 10 ≤ digit_value v
mark_no_digit v is = grind (arith, nat_tests)

-- the longest fraction takes all digits
pub fraction_longest : (text : List ℕ) (a b f : ℕ) → AreDigits 10 text (a + 1) b → IsExponent text b f → ((e : ℕ) → IsExponent text b e → e ≤ f) → (e : ℕ) → IsFraction text a e → e ≤ f
fraction_longest text a b f are exponent longest e fraction =
    let below : fraction.after ≤ b = digits_longest 10 text (a + 1) b fraction.after are fraction.part in
    let above : b ≤ f = exponent_from text b f exponent in
    elim (cases_lt fraction.after b) [
      | inl lt ↦ elim fraction.exponent [
        | inl is ↦ omega (arith, is)
        | inr (mark, rest) ↦ absurd (omega (arith, mark_no_digit (get_or text fraction.after 0) mark, are.digits fraction.after (omega (arith, fraction.part.some)) lt))
      ]
      | inr le ↦ let is : fraction.after ≡ b = omega arith in longest e (subst (λ n. IsExponent text n e) is fraction.exponent)
    ]

-- one code stands behind `0'`
pub code_once : (text : List ℕ) (a : ℕ) (c d : ℕ) (b e : ℕ) (how how' : Code) → IsCode text a c b how → IsCode text a d e how' → b ≡ e
code_once text a c d b e doubled doubled x y = x.1.by.2 ∙ sym y.1.by.2
code_once text a c d b e doubled escaped x y = absurd (omega (arith, x.1.by.0, y.by.backslash))
code_once text a c d b e doubled itself x y = absurd (y.no_quote x.1.by.0)
code_once text a c d b e escaped doubled x y = absurd (omega (arith, y.1.by.0, x.by.backslash))
code_once text a c d b e escaped escaped x y = let same : SameEnd (Some c) (Some d) b e = escape_once text a (Some c) (Some d) b e x.by y.by in same.ends
code_once text a c d b e escaped itself x y = absurd (y.no_backslash x.by.backslash)
code_once text a c d b e itself doubled x y = absurd (x.no_quote y.1.by.0)
code_once text a c d b e itself escaped x y = absurd (x.no_backslash y.by.backslash)
code_once text a c d b e itself itself x y = char_once text a b e x.char y.char
