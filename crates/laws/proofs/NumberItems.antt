-- What the number is that begins with a digit, and how the code behind `0'` goes on.
use Rattle.std.proofs.Common.{◌≡◌, ◌≢◌, ℕ, ◌+◌, ◌-◌, ◌<◌, ◌≤◌, ◌⊎◌, List, length, Option, Some, None, true, false, get_or, ap, sym, ◌∙◌, subst, refl, inl, inr, arith}
use Rattle.std.specs.Char.{digit_value}
use Rattle.std.proofs.lemmas.Bool.{cases_eq, cases_lt, cases_Bool}
use Rattle.std.proofs.lemmas.Bool.Decides.{nat_tests}
use Rattle.prolog_tokens.specs.declared.numbers.CodeEnd.{CodeEnd}
use Rattle.prolog_tokens.specs.declared.numbers.CodeEnd.TheVariants.{Found, Wrong, Absent}
use Rattle.prolog_tokens.specs.declared.numbers.NumberEnd.{NumberEnd}
use Rattle.prolog_tokens.specs.declared.numbers.NumberEnd.TheVariants.{Whole, Fraction, BadCode}
use Rattle.prolog_tokens.specs.Chars.{class_at, code_at}
use Rattle.prolog_tokens.specs.Digits.{IsDigits, number_at}
use Rattle.prolog_tokens.specs.Escapes.{IsEscape}
use Rattle.prolog_tokens.specs.Numbers.{IsChar, IsCodeMark, Code, doubled, escaped, itself, IsItself, IsCode, IsBadCode, base_of, IsBased, is_exponent_mark, after_sign, IsExponent, IsFraction}
use Rattle.prolog_tokens.specs.Ends.{CodeEndIs, NumberEndIs}
use Rattle.prolog_tokens.proofs.Classes.{here}
use Rattle.prolog_tokens.proofs.Parts.{escape_after}
use Rattle.prolog_tokens.proofs.Once.{SameEnd, byte_clash, escape_once}
use Rattle.prolog_tokens.proofs.OneToken.{exponent_from}
use Rattle.prolog_tokens.proofs.Longest.{AreDigits, digits_longest, digits_write, fraction_longest}
use Rattle.prolog_tokens.proofs.NumberEnds.{AreWhole, code_spelled, zero_spelled, based_spelled, float_spelled, plain_spelled}
use Rattle.prolog_tokens.proofs.Faults.{bad_code_no_start}
use Rattle.laws.proofs.Runs.{digits_end, digits_or, is_inner, inner_is, inner_not, char_end}
use Rattle.laws.proofs.Escapes.{escape_or}

abbrev HasCodeEnd : List ℕ → ℕ → Type 0
HasCodeEnd text a = (r : CodeEnd) × CodeEndIs text a r

-- an escape of a character is the code, and any other is wrong
code_escaped : (text : List ℕ) (a b : ℕ) (c : Option ℕ) → get_or text a 0 ≡ 92 → IsEscape text a c b → HasCodeEnd text a
code_escaped text a b (Some c) backslash x = (Found b, (c, escaped, record { within = (escape_after text a (Some c) b x).within; by = x }))
code_escaped text a b None backslash x = (
  Wrong,
  (
    backslash,
    λ d e part.
        let same : SameEnd None (Some d) b e = escape_once text a None (Some d) b e x part.by in
        let both : None ≡ Some d = same.what in
        cc,
  ),
)

-- no code, by what stands at the place
absent_by : (text : List ℕ) (a : ℕ) → get_or text a 0 ≢ 92 → (get_or text a 0 ≡ 39 → get_or text (a + 1) 0 ≡ 39 → ⊥) → ((c b : ℕ) → IsItself text a c b → ⊥) → (c b : ℕ) (how : Code) → IsCode text a c b how → ⊥
absent_by text a ne none nothing c b doubled x = none x.1.by.0 x.1.by.1
absent_by text a ne none nothing c b escaped x = ne x.by.backslash
absent_by text a ne none nothing c b itself x = nothing c b x

absent : (text : List ℕ) (a : ℕ) → get_or text a 0 ≢ 92 → (get_or text a 0 ≡ 39 → get_or text (a + 1) 0 ≡ 39 → ⊥) → ((c b : ℕ) → IsItself text a c b → ⊥) → HasCodeEnd text a
absent text a ne none nothing = (Absent, (ne, absent_by text a ne none nothing))

code_quote : (text : List ℕ) (a : ℕ) → get_or text a 0 ≡ 39 → HasCodeEnd text a
code_quote text a is = elim (cases_eq (get_or text (a + 1) 0) 39) [
  | inl second ↦
      let lt : a + 1 < length text = here text (a + 1) 39 second (omega arith) in
      (Found (a + 2), (39, doubled, (refl, record { within = omega (arith, lt); by = (is, second, refl) })))
  | inr alone ↦ absent text a (λ e. byte_clash text a 39 92 is e (λ n. omega (arith, n))) (λ _ second. alone second) (λ c b x. x.no_quote is)
]

code_plain : (text : List ℕ) (a : ℕ) → get_or text a 0 ≢ 39 → get_or text a 0 ≢ 92 → get_or text a 0 ≢ 10 → HasCodeEnd text a
code_plain text a no_quote no_backslash no_newline = elim (cases_lt a (length text)) [
  | inl within ↦ elim (cases_Bool (is_inner (class_at text a))) [
    | inl holds ↦ absent text a no_backslash (λ is _. no_quote is) (λ c b x. x.char.begins (inner_is (class_at text a) holds))
    | inr fails ↦
        let char : (b : ℕ) × IsChar text a b = char_end text a within (inner_not (class_at text a) fails) in (
          Found char.0,
          (code_at text a, itself, record { char = char.1; is = refl; no_quote = no_quote; no_backslash = no_backslash; no_newline = no_newline }),
        )
  ]
  | inr past ↦ absent text a no_backslash (λ is _. no_quote is) (λ c b x. omega (arith, past, x.char.some, x.char.within))
]

code_end : (text : List ℕ) (a : ℕ) → HasCodeEnd text a
code_end text a = elim (cases_eq (get_or text a 0) 92) [
  | inl backslash ↦ elim (escape_or text a backslash) [
    | inl (c, b, x) ↦ code_escaped text a b c backslash x
    | inr none ↦ (Wrong, (backslash, λ c b part. none (Some c) b part.by))
  ]
  | inr no_backslash ↦ elim (cases_eq (get_or text a 0) 39) [
    | inl is ↦ code_quote text a is
    | inr no_quote ↦ elim (cases_eq (get_or text a 0) 10) [
      | inl newline ↦ absent text a no_backslash (λ is _. no_quote is) (λ c b x. x.no_newline newline)
      | inr no_newline ↦ code_plain text a no_quote no_backslash no_newline
    ]
  ]
]

-- the longest exponent, or none
record LongestExponent (text : List ℕ) (a : ℕ) : Type 0 where
  end : ℕ
  exponent : IsExponent text a end
  longest : (e : ℕ) → IsExponent text a e → e ≤ end

no_exponent : (text : List ℕ) (a : ℕ) → ((e : ℕ) → is_exponent_mark (get_or text a 0) ≡ true → IsDigits 10 text (after_sign text (a + 1)) e → ⊥) → LongestExponent text a
no_exponent text a none = record {
  end = a;
  exponent = inl refl;
  longest = λ e x. elim x [
    | inl is ↦ omega (arith, is)
    | inr (mark, digits) ↦ absurd (none e mark digits)
  ];
}

exponent_end : (text : List ℕ) (a : ℕ) → LongestExponent text a
exponent_end text a = elim (cases_Bool (is_exponent_mark (get_or text a 0))) [
  | inl mark ↦ elim (digits_or 10 text (after_sign text (a + 1)) (omega arith)) [
    | inl has ↦
        let exponent : IsExponent text a has.end = inr (mark, has.digits) in
        record {
          end = has.end;
          exponent = exponent;
          longest = λ e x. elim x [
            | inl is ↦ omega (arith, is, exponent_from text a has.end exponent)
            | inr (_, digits) ↦ digits_longest 10 text (after_sign text (a + 1)) has.end e has.all digits
          ];
        }
    | inr none ↦ no_exponent text a (λ e _ digits. none e digits)
  ]
  | inr fails ↦ no_exponent text a (λ e mark _. let both : true ≡ false = sym mark ∙ fails in cc)
]

-- the longest fraction
record LongestFraction (text : List ℕ) (a : ℕ) : Type 0 where
  end : ℕ
  fraction : IsFraction text a end
  longest : (e : ℕ) → IsFraction text a e → e ≤ end

fraction_or : (text : List ℕ) (a : ℕ) → LongestFraction text a ⊎ ((e : ℕ) → IsFraction text a e → ⊥)
fraction_or text a = elim (cases_eq (get_or text a 0) 46) [
  | inl dot ↦ elim (digits_or 10 text (a + 1) (omega arith)) [
    | inl has ↦
        let x : LongestExponent text has.end = exponent_end text has.end in
        inl (record {
          end = x.end;
          fraction = record { dot = dot; after = has.end; part = has.digits; exponent = x.exponent };
          longest = fraction_longest text a has.end x.end has.all x.exponent x.longest;
        })
    | inr none ↦ inr (λ e x. none x.after x.part)
  ]
  | inr ne ↦ inr (λ e x. ne x.dot)
]

-- the longest integer with the letter of a base
record LongestBased (text : List ℕ) (a : ℕ) : Type 0 where
  base : ℕ
  number : ℕ
  end : ℕ
  is : IsBased base text a number end
  longest : (o n e : ℕ) → IsBased o text a n e → e ≤ end

abbrev NoBased : List ℕ → ℕ → Type 0
NoBased text a = (base n e : ℕ) → IsBased base text a n e → ⊥

-- digits of the base that the letter tells
same_base : (text : List ℕ) (a base o n e : ℕ) → base_of (get_or text (a + 1) 0) ≡ Some base → IsBased o text a n e → IsDigits base text (a + 2) e
same_base text a base o n e letter x =
    let both : Some o ≡ Some base = sym x.letter ∙ letter in
    let same : o ≡ base = cc in
    subst (λ m. IsDigits m text (a + 2) e) same x.writes.digits

based_by : (text : List ℕ) (a base : ℕ) → base ≤ 36 → get_or text a 0 ≡ 48 → base_of (get_or text (a + 1) 0) ≡ Some base → LongestBased text a ⊎ NoBased text a
based_by text a base small zero letter = elim (digits_or base text (a + 2) small) [
  | inl has ↦ inl (record {
    base = base;
    number = number_at base text (a + 2) (has.end - (a + 2));
    end = has.end;
    is = record { zero_digit = zero; letter = letter; writes = digits_write base text (a + 2) has.end has.digits };
    longest = λ o n e x. digits_longest base text (a + 2) has.end e has.all (same_base text a base o n e letter x);
  })
  | inr none ↦ inr (λ o n e x. none e (same_base text a base o n e letter x))
]

no_letter : (v : ℕ) → v ≢ 98 → v ≢ 111 → v ≢ 120 → base_of v ≡ None
no_letter v b o x = grind (arith, nat_tests)

based_or : (text : List ℕ) (a : ℕ) → LongestBased text a ⊎ NoBased text a
based_or text a = elim (cases_eq (get_or text a 0) 48) [
  | inl zero ↦ elim (cases_eq (get_or text (a + 1) 0) 98) [
    | inl is ↦ based_by text a 2 (omega arith) zero (ap base_of is)
    | inr no_b ↦ elim (cases_eq (get_or text (a + 1) 0) 111) [
      | inl is ↦ based_by text a 8 (omega arith) zero (ap base_of is)
      | inr no_o ↦ elim (cases_eq (get_or text (a + 1) 0) 120) [
        | inl is ↦ based_by text a 16 (omega arith) zero (ap base_of is)
        | inr no_x ↦ inr (λ base n e x. let both : Some base ≡ None = sym x.letter ∙ no_letter (get_or text (a + 1) 0) no_b no_o no_x in cc)
      ]
    ]
  ]
  | inr ne ↦ inr (λ base n e x. ne x.zero_digit)
]

abbrev pub HasNumberEnd : List ℕ → ℕ → Type 0
HasNumberEnd text a = (r : NumberEnd) × NumberEndIs text a r

mark_or : (text : List ℕ) (a : ℕ) → IsCodeMark text a ⊎ (IsCodeMark text a → ⊥)
mark_or text a = elim (cases_eq (get_or text a 0) 48) [
  | inl zero ↦ elim (cases_eq (get_or text (a + 1) 0) 39) [
    | inl quote ↦ inl (record { zero_digit = zero; quote = quote })
    | inr ne ↦ inr (λ x. ne x.quote)
  ]
  | inr ne ↦ inr (λ x. ne x.zero_digit)
]

marked_end : (text : List ℕ) (a : ℕ) (r : CodeEnd) → IsCodeMark text a → CodeEndIs text (a + 2) r → HasNumberEnd text a
marked_end text a (Found b) mark x = (Whole b, code_spelled text a x.0 b x.1 mark x.2)
marked_end text a Wrong mark x =
    let bad : IsBadCode text a (a + 2) = record { mark = mark; place = refl; backslash = x.0; none = x.1 } in
    (BadCode, (bad, (bad_code_no_start text a (a + 2) bad).no_token))
marked_end text a Absent mark x = (Whole (a + 1), zero_spelled text a mark x.0 x.1)

whole_end : (text : List ℕ) (a dot : ℕ) → AreWhole text a dot → HasNumberEnd text a
whole_end text a dot whole = elim (fraction_or text dot) [
  | inl x ↦ (Fraction x.end, float_spelled text a dot x.end whole x.fraction x.longest)
  | inr none ↦ (Whole dot, plain_spelled text a dot whole none)
]

pub number_end : (text : List ℕ) (a : ℕ) → a < length text → digit_value (get_or text a 0) < 10 → HasNumberEnd text a
number_end text a within digit = elim (mark_or text a) [
  | inl mark ↦ let code : HasCodeEnd text (a + 2) = code_end text (a + 2) in marked_end text a code.0 mark code.1
  | inr no_mark ↦ elim (based_or text a) [
    | inl x ↦ (Whole x.end, based_spelled text a x.base x.number x.end x.is x.longest)
    | inr no_base ↦
        let found : (b : ℕ) × AreDigits 10 text a b = digits_end 10 text a (omega arith) (omega (arith, within)) in
        whole_end text a found.0 (record { digit = digit; digits = found.1; no_mark = no_mark; no_base = no_base })
  ]
]
