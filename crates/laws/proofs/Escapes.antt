-- Whether an escape sequence stands at a backslash.
use Rattle.std.proofs.Common.{◌≡◌, ℕ, ◌+◌, ◌-◌, ◌≤◌, ◌⊎◌, List, Option, Some, None, true, false, get_or, ap, sym, ◌∙◌, refl, inl, inr, arith}
use Rattle.std.specs.Char.{digit_value}
use Rattle.std.proofs.Math.Utf8.{scalar}
use Rattle.std.proofs.lemmas.Bool.{cases_eq, cases_lt, cases_Bool}
use Rattle.prolog_tokens.specs.declared.escapes.Mark.{Mark}
use Rattle.prolog_tokens.specs.declared.escapes.Mark.TheVariants.{Letter, Octal, Hex, Newline, Nothing}
use Rattle.prolog_tokens.specs.Digits.{number_at}
use Rattle.prolog_tokens.specs.Escapes.{mark_of, IsCoded, EscapeBy, IsEscape}
use Rattle.prolog_tokens.proofs.Longest.{AreDigits, digits_longest, digits_write}
use Rattle.laws.proofs.Runs.{HasDigits, digits_or}

-- the number of a character takes all digits
close_is : (base : ℕ) (text : List ℕ) (a e : ℕ) → base ≤ 36 → AreDigits base text a e → (c : Option ℕ) (b : ℕ) → (x : IsCoded base text a c b) → x.close ≡ e
close_is base text a e small are c b x =
    let below : x.close ≤ e = digits_longest base text a e x.close are x.writes.digits in
    elim (cases_lt x.close e) [
      | inl lt ↦
          let value : digit_value (get_or text x.close 0) ≡ digit_value 92 = ap digit_value x.backslash in
          let none : ⊥ = omega (arith, are.digits x.close (omega (arith, x.writes.digits.some)) lt, value, small) in
          absurd none
      | inr le ↦ omega (arith, below, le)
    ]

-- and is what they write
number_is : (base : ℕ) (text : List ℕ) (a e : ℕ) → base ≤ 36 → AreDigits base text a e → (c : Option ℕ) (b : ℕ) → (x : IsCoded base text a c b) → x.number ≡ number_at base text a (e - a)
number_is base text a e small are c b x =
    let count : x.writes.count ≡ e - a = omega (arith, x.writes.ends, close_is base text a e small are c b x) in
    x.writes.is ∙ ap (λ n. number_at base text a n) count

abbrev HasCoded : ℕ → List ℕ → ℕ → Type 0
HasCoded base text a = (c : Option ℕ) × (b : ℕ) × IsCoded base text a c b

abbrev NoCoded : ℕ → List ℕ → ℕ → Type 0
NoCoded base text a = (c : Option ℕ) (b : ℕ) → IsCoded base text a c b → ⊥

coded_by : (base : ℕ) (text : List ℕ) (a : ℕ) → base ≤ 36 → HasDigits base text a → HasCoded base text a ⊎ NoCoded base text a
coded_by base text a small has = elim (cases_eq (get_or text has.end 0) 92) [
  | inl backslash ↦ elim (cases_Bool (scalar (number_at base text a (has.end - a)))) [
    | inl holds ↦ inl (
      Some (number_at base text a (has.end - a)),
      has.end + 1,
      record {
        close = has.end;
        number = number_at base text a (has.end - a);
        writes = digits_write base text a has.end has.digits;
        backslash = backslash;
        ends = refl;
        is = refl;
        scalar = holds;
      },
    )
    | inr fails ↦ inr (λ c b x. let both : true ≡ false = sym x.scalar ∙ ap scalar (number_is base text a has.end small has.all c b x) ∙ fails in cc)
  ]
  | inr ne ↦ inr (λ c b x. ne (ap (λ n. get_or text n 0) (sym (close_is base text a has.end small has.all c b x)) ∙ x.backslash))
]

coded_or : (base : ℕ) (text : List ℕ) (a : ℕ) → base ≤ 36 → HasCoded base text a ⊎ NoCoded base text a
coded_or base text a small = elim (digits_or base text a small) [
  | inl has ↦ coded_by base text a small has
  | inr none ↦ inr (λ c b x. none x.close x.writes.digits)
]

escape_by : (text : List ℕ) (a : ℕ) (m : Mark) → ((c : Option ℕ) × (b : ℕ) × EscapeBy text a c b m) ⊎ ((c : Option ℕ) (b : ℕ) → EscapeBy text a c b m → ⊥)
escape_by text a (Letter v) = inl (Some v, a + 2, (refl, refl))
escape_by text a Octal = coded_or 8 text (a + 1) (omega arith)
escape_by text a Hex = coded_or 16 text (a + 2) (omega arith)
escape_by text a Newline = inl (None, a + 2, (refl, refl))
escape_by text a Nothing = inr (λ c b none. none)

pub escape_or : (text : List ℕ) (a : ℕ) → get_or text a 0 ≡ 92 → ((c : Option ℕ) × (b : ℕ) × IsEscape text a c b) ⊎ ((c : Option ℕ) (b : ℕ) → IsEscape text a c b → ⊥)
escape_or text a backslash = elim (escape_by text a (mark_of (get_or text (a + 1) 0))) [
  | inl (c, b, by) ↦ inl (c, b, record { backslash = backslash; by = by })
  | inr none ↦ inr (λ c b x. none c b x.by)
]
