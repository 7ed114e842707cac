-- What is spelled where a digit stands.
use Rattle.std.proofs.Common.{◌≡◌, ◌≢◌, ℕ, ◌+◌, ◌-◌, ◌<◌, ◌≤◌, List, length, Some, None, get_or, ap, sym, ◌∙◌, subst, refl, inl, inr, arith}
use Rattle.std.specs.Char.{digit_value}
use Rattle.std.proofs.lemmas.Bool.{cases_lt}
use Rattle.prolog_tokens.specs.declared.chars.Class.TheVariants.{Digit}
use Rattle.prolog_tokens.specs.declared.token.Kind.{Kind}
use Rattle.prolog_tokens.specs.declared.token.Kind.TheVariants.{Integer, Float}
use Rattle.prolog_tokens.specs.Digits.{IsDigits, number_at}
use Rattle.prolog_tokens.specs.Numbers.{IsCodeMark, Code, doubled, escaped, itself, IsCode, Form, plain_digits, based, code, base_of, IsBased, IsIntegerBy, IsFraction, IsFloat}
use Rattle.prolog_tokens.specs.Spelling.{Spells, IsSpelled}
use Rattle.prolog_tokens.specs.Quoted.{twice, escape}
use Rattle.prolog_tokens.proofs.Classes.{here}
use Rattle.prolog_tokens.proofs.Parts.{part_after}
use Rattle.prolog_tokens.proofs.Families.{digit_here, by_this}
use Rattle.prolog_tokens.proofs.OneToken.{float_second, base_letter, exponent_from}
use Rattle.prolog_tokens.proofs.Longest.{AreDigits, digits_longest, some_digits, digits_write, code_once}

-- what bounds the integers and the floats at a digit
pub record NumbersEnd (text : List ℕ) (a b : ℕ) : Type 0 where
  pub integers : (form : Form) (n e : ℕ) → IsIntegerBy text a n e form → e ≤ b
  pub floats : (e : ℕ) → IsFloat text a e → e ≤ b

-- bounds each token there
pub numbers_bound : (text : List ℕ) (a b : ℕ) → digit_value (get_or text a 0) < 10 → NumbersEnd text a b → (k : Kind) (e : ℕ) → Spells text a e k → e ≤ b
numbers_bound text a b digit numbers k e s = elim (by_this text a e k Digit (digit_here text a digit) s) [
  | inl (is, integer) ↦ numbers.integers integer.1.form integer.0 e integer.1.by
  | inr (is, float) ↦ numbers.floats e float
]

-- digits that a byte stops end no later
digits_before : (text : List ℕ) (a e v : ℕ) → IsDigits 10 text a e → get_or text (a + 1) 0 ≡ v → 10 ≤ digit_value v → e ≤ a + 1
digits_before text a e v digits is none = elim (cases_lt (a + 1) e) [
  | inl lt ↦
      let value : digit_value (get_or text (a + 1) 0) ≡ digit_value v = ap digit_value is in
      absurd (omega (arith, digits.digits (a + 1) (omega arith) lt, value))
  | inr le ↦ le
]

zero_digit : (text : List ℕ) (a : ℕ) → get_or text a 0 ≡ 48 → digit_value (get_or text a 0) < 10
zero_digit text a is = let value : digit_value (get_or text a 0) ≡ digit_value 48 = ap digit_value is in omega (arith, value)

-- the mark of a code begins no integer with a base
mark_no_base : (text : List ℕ) (a base : ℕ) → IsCodeMark text a → base_of (get_or text (a + 1) 0) ≡ Some base → ⊥
mark_no_base text a base mark is = let both : Some base ≡ None = sym is ∙ ap base_of mark.quote in cc

mark_no_float : (text : List ℕ) (a e : ℕ) → IsCodeMark text a → IsFloat text a e → ⊥
mark_no_float text a e mark float = float_second text a e 39 float mark.quote (omega arith) (λ is. omega (arith, is))

-- behind the mark of a code no integer ends later than the codes do
mark_bound : (text : List ℕ) (a b : ℕ) → a + 1 ≤ b → IsCodeMark text a → ((c e : ℕ) (how : Code) → IsCode text (a + 2) c e how → e ≤ b)
    → (form : Form) (n e : ℕ) → IsIntegerBy text a n e form → e ≤ b
mark_bound text a b from mark codes plain_digits n e x = omega (arith, digits_before text a e 39 x.writes.digits mark.quote (omega arith))
mark_bound text a b from mark codes (based base) n e x = absurd (mark_no_base text a base mark x.letter)
mark_bound text a b from mark codes (code how) n e x = codes n e how x.1

mark_end : (text : List ℕ) (a b : ℕ) → a + 1 ≤ b → IsCodeMark text a → ((c e : ℕ) (how : Code) → IsCode text (a + 2) c e how → e ≤ b)
    → (k : Kind) (e : ℕ) → Spells text a e k → e ≤ b
mark_end text a b from mark codes =
    numbers_bound text a b (zero_digit text a mark.zero_digit) (record {
      integers = mark_bound text a b from mark codes;
      floats = λ e x. absurd (mark_no_float text a e mark x);
    })

code_from : (text : List ℕ) (a c b : ℕ) (how : Code) → IsCode text a c b how → a < b
code_from text a c b doubled x = part_after text 39 a twice b x.1
code_from text a c b escaped x = part_after text 39 a (escape (Some c)) b x
code_from text a c b itself x = x.char.some

-- a code is the longest token where it stands
pub code_spelled : (text : List ℕ) (a c b : ℕ) (how : Code) → IsCodeMark text a → IsCode text (a + 2) c b how → IsSpelled text Integer a b
code_spelled text a c b how mark is =
    let after : a + 2 < b = code_from text (a + 2) c b how is in
    record {
      spells = (c, record { form = code how; by = (mark, is) });
      longest = mark_end text a b (omega arith) mark (λ d e how' x. omega (arith, code_once text (a + 2) c d b e how how' is x));
    }

-- a 0 is, where a code should stand and neither it nor a backslash does
pub zero_spelled : (text : List ℕ) (a : ℕ) → IsCodeMark text a → get_or text (a + 2) 0 ≢ 92 → ((c e : ℕ) (how : Code) → IsCode text (a + 2) c e how → ⊥) → IsSpelled text Integer a (a + 1)
zero_spelled text a mark backslash none =
    let within : a + 1 < length text = here text (a + 1) 39 mark.quote (omega arith) in
    let digits : IsDigits 10 text a (a + 1) =
    record {
      some = omega arith;
      within = omega arith;
      digits = λ k from below. let is : a ≡ k = omega arith in subst (λ n. digit_value (get_or text n 0) < 10) is (zero_digit text a mark.zero_digit);
    } in
    record {
      spells = (number_at 10 text a (a + 1 - a), record { form = plain_digits; by = record { writes = digits_write 10 text a (a + 1) digits; no_code = λ _ _. backslash } });
      longest = mark_end text a (a + 1) (omega arith) mark (λ c e how x. absurd (none c e how x));
    }

based_bound : (text : List ℕ) (a base n b : ℕ) → IsBased base text a n b → ((base n e : ℕ) → IsBased base text a n e → e ≤ b) → (form : Form) (m e : ℕ) → IsIntegerBy text a m e form → e ≤ b
based_bound text a base n b is longest plain_digits m e x =
    omega (arith, digits_before text a e (get_or text (a + 1) 0) x.writes.digits refl (base_letter (get_or text (a + 1) 0) base is.letter).0, is.writes.digits.some)
based_bound text a base n b is longest (based base') m e x = longest base' m e x
based_bound text a base n b is longest (code how) m e x = absurd (mark_no_base text a base x.0 is.letter)

-- an integer with the letter of a base is, where it is the longest of these
pub based_spelled : (text : List ℕ) (a base n b : ℕ) → IsBased base text a n b → ((base n e : ℕ) → IsBased base text a n e → e ≤ b) → IsSpelled text Integer a b
based_spelled text a base n b is longest = record {
  spells = (n, record { form = based base; by = is });
  longest = numbers_bound text a b (zero_digit text a is.zero_digit) (record {
    integers = based_bound text a base n b is longest;
    floats = λ e x. absurd (float_second text a e (get_or text (a + 1) 0) x refl (base_letter (get_or text (a + 1) 0) base is.letter).0 (base_letter (get_or text (a + 1) 0) base is.letter).1);
  });
}

-- the digits where neither a code nor the letter of a base stands
pub record AreWhole (text : List ℕ) (a b : ℕ) : Type 0 where
  pub digit : digit_value (get_or text a 0) < 10
  pub digits : AreDigits 10 text a b
  pub no_mark : IsCodeMark text a → ⊥
  pub no_base : (base n e : ℕ) → IsBased base text a n e → ⊥

whole_some : (text : List ℕ) (a b : ℕ) → AreWhole text a b → a ≢ b
whole_some text a b whole is = let stops : 10 ≤ digit_value (get_or text a 0) = subst (λ n. 10 ≤ digit_value (get_or text n 0)) (sym is) whole.digits.stops in omega (arith, whole.digit)

whole_bound : (text : List ℕ) (a b : ℕ) → AreWhole text a b → (form : Form) (n e : ℕ) → IsIntegerBy text a n e form → e ≤ b
whole_bound text a b whole plain_digits n e x = digits_longest 10 text a b e whole.digits x.writes.digits
whole_bound text a b whole (based base) n e x = absurd (whole.no_base base n e x)
whole_bound text a b whole (code how) n e x = absurd (whole.no_mark x.0)

-- a float's fraction begins behind all of them
whole_dot : (text : List ℕ) (a b e : ℕ) → AreWhole text a b → IsFloat text a e → IsFraction text b e
whole_dot text a b e whole float =
    let below : float.dot ≤ b = digits_longest 10 text a b float.dot whole.digits float.whole in
    elim (cases_lt float.dot b) [
      | inl lt ↦
          let value : digit_value (get_or text float.dot 0) ≡ digit_value 46 = ap digit_value float.fraction.dot in
          absurd (omega (arith, whole.digits.digits float.dot (omega (arith, float.whole.some)) lt, value))
      | inr le ↦ let is : float.dot ≡ b = omega arith in subst (λ n. IsFraction text n e) is float.fraction
    ]

-- they and the longest fraction are a float,
pub float_spelled : (text : List ℕ) (a b e : ℕ) → AreWhole text a b → IsFraction text b e → ((f : ℕ) → IsFraction text b f → f ≤ e) → IsSpelled text Float a e
float_spelled text a b e whole fraction longest =
    let after : b ≤ e = omega (arith, fraction.part.some, exponent_from text fraction.after e fraction.exponent) in
    record {
      spells = record { dot = b; whole = some_digits 10 text a b whole.digits (whole_some text a b whole); fraction = fraction };
      longest = numbers_bound text a e whole.digit (record {
        integers = λ form n f x. omega (arith, whole_bound text a b whole form n f x);
        floats = λ f x. longest f (whole_dot text a b f whole x);
      });
    }

-- and without one an integer
pub plain_spelled : (text : List ℕ) (a b : ℕ) → AreWhole text a b → ((f : ℕ) → IsFraction text b f → ⊥) → IsSpelled text Integer a b
plain_spelled text a b whole none =
    let digits : IsDigits 10 text a b = some_digits 10 text a b whole.digits (whole_some text a b whole) in
    record {
      spells = (number_at 10 text a (b - a), record { form = plain_digits; by = record { writes = digits_write 10 text a b digits; no_code = λ _ mark. absurd (whole.no_mark mark) } });
      longest = numbers_bound text a b whole.digit (record {
        integers = whole_bound text a b whole;
        floats = λ e x. absurd (none e (whole_dot text a b e whole x));
      });
    }
