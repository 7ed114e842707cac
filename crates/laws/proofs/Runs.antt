-- Runs of one kind from a place on: digits, words, graphic characters, the bytes of a character, a line.
use Rattle.std.proofs.Common.{◌≡◌, ◌≢◌, ℕ, ◌+◌, ◌<◌, ◌≤◌, ◌⊎◌, List, length, Bool, true, false, not, eqb, ltb, get_or, ap, sym, ◌∙◌, subst, refl, inl, inr, arith}
use Rattle.std.specs.Char.{digit_value}
use Rattle.std.proofs.lemmas.Bool.{eqb-true, eqb-false, ltb-true, ltb-false, not-true, not-false, cases_eq, cases_lt}
use Rattle.std.proofs.lemmas.List.{get_or_past}
use Rattle.prolog_tokens.specs.declared.chars.Class.{Class}
use Rattle.prolog_tokens.specs.declared.chars.Class.TheVariants.{Inner}
use Rattle.prolog_tokens.specs.Chars.{class_at, continues, is_graphic}
use Rattle.prolog_tokens.specs.Digits.{IsDigits}
use Rattle.prolog_tokens.specs.Numbers.{IsChar}
use Rattle.prolog_tokens.specs.Layout.{GoesToNewline}
use Rattle.prolog_tokens.specs.Spelling.{IsRun}
use Rattle.prolog_tokens.proofs.Classes.{class_past, past_not_inner}
use Rattle.prolog_tokens.proofs.Longest.{AreDigits, some_digits}
use Rattle.prolog_tokens.proofs.Spelled.{GoesOn}
use Rattle.laws.proofs.Firsts.{StopsAt, one_later, first_stop}

abbrev digit_at : ℕ → List ℕ → ℕ → Bool
digit_at base text k = ltb (digit_value (get_or text k 0)) base

digits_are : (base : ℕ) (text : List ℕ) (a b : ℕ) → base ≤ 36 → StopsAt (digit_at base text) (length text) a b → AreDigits base text a b
digits_are base text a b small stop = record {
  from = stop.from;
  within = stop.within;
  digits = λ k from below. ltb-true (digit_value (get_or text k 0)) base (stop.holds k from below);
  stops = elim stop.stops [
    | inl is ↦
        let value : digit_value (get_or text b 0) ≡ digit_value 0 = ap digit_value (get_or_past text b 0 (omega (arith, is))) in
        omega (arith, value, small)
    | inr fails ↦ ltb-false (digit_value (get_or text b 0)) base fails
  ];
}

-- all the digits of a base from one place on
pub digits_end : (base : ℕ) (text : List ℕ) (a : ℕ) → base ≤ 36 → a ≤ length text → (b : ℕ) × AreDigits base text a b
digits_end base text a small within =
    let stop : (b : ℕ) × StopsAt (digit_at base text) (length text) a b = first_stop (digit_at base text) (length text) a within in
    (stop.0, digits_are base text a stop.0 small stop.1)

-- some digits of a base, and all that stand there
pub record HasDigits (base : ℕ) (text : List ℕ) (a : ℕ) : Type 0 where
  pub end : ℕ
  pub digits : IsDigits base text a end
  pub all : AreDigits base text a end

pub digits_or : (base : ℕ) (text : List ℕ) (a : ℕ) → base ≤ 36 → HasDigits base text a ⊎ ((b : ℕ) → IsDigits base text a b → ⊥)
digits_or base text a small = elim (cases_lt (length text) a) [
  | inl past ↦ inr (λ b d. omega (arith, past, d.some, d.within))
  | inr within ↦
      let found : (b : ℕ) × AreDigits base text a b = digits_end base text a small within in
      let are : AreDigits base text a found.0 = found.1 in
      elim (cases_eq a found.0) [
        | inl is ↦
            let stops : base ≤ digit_value (get_or text a 0) = subst (λ n. base ≤ digit_value (get_or text n 0)) (sym is) are.stops in
            inr (λ b d. omega (arith, stops, d.digits a (omega arith) d.some))
        | inr ne ↦ inl (record { end = found.0; digits = some_digits base text a found.0 are ne; all = are })
      ]
]

word_goes : (text : List ℕ) (a b : ℕ) → StopsAt (λ k. continues (class_at text k)) (length text) (a + 1) b → GoesOn text a b
word_goes text a b stop = record {
  from = stop.from;
  within = stop.within;
  goes_on = stop.holds;
  stops = elim stop.stops [
    | inl is ↦ ap continues (class_past text b (omega (arith, is)))
    | inr fails ↦ fails
  ];
}

-- all that goes on a word
pub word_end : (text : List ℕ) (a : ℕ) → a < length text → (b : ℕ) × GoesOn text a b
word_end text a within =
    let stop : (b : ℕ) × StopsAt (λ k. continues (class_at text k)) (length text) (a + 1) b = first_stop (λ k. continues (class_at text k)) (length text) (a + 1) (omega (arith, within)) in
    (stop.0, word_goes text a stop.0 stop.1)

run_is : (text : List ℕ) (a b : ℕ) → a < b → StopsAt (λ k. is_graphic (class_at text k)) (length text) a b → IsRun text a b
run_is text a b some stop = record {
  some = some;
  within = stop.within;
  graphic = stop.holds;
  longest = elim stop.stops [
    | inl is ↦ ap is_graphic (class_past text b (omega (arith, is)))
    | inr fails ↦ fails
  ];
}

-- the run of graphic characters
pub run_end : (text : List ℕ) (a : ℕ) → a < length text → is_graphic (class_at text a) ≡ true → (b : ℕ) × IsRun text a b
run_end text a within graphic =
    let stop : (b : ℕ) × StopsAt (λ k. is_graphic (class_at text k)) (length text) (a + 1) b = first_stop (λ k. is_graphic (class_at text k)) (length text) (a + 1) (omega (arith, within)) in
    let later : StopsAt (λ k. is_graphic (class_at text k)) (length text) (a + 1) stop.0 = stop.1 in
    (stop.0, run_is text a stop.0 (omega (arith, later.from)) (one_later (λ k. is_graphic (class_at text k)) (length text) a stop.0 graphic later))

abbrev pub is_inner : Class → Bool
is_inner Inner = true
is_inner _ = false

pub inner_is : (class : Class) → is_inner class ≡ true → class ≡ Inner
inner_is Inner is = refl
inner_is _ is = let both : true ≡ false = sym is in cc

pub inner_not : (class : Class) → is_inner class ≡ false → class ≢ Inner
inner_not class is = λ e. let both : true ≡ false = sym (ap is_inner e) ∙ is in cc

char_is : (text : List ℕ) (a b : ℕ) → class_at text a ≢ Inner → StopsAt (λ k. is_inner (class_at text k)) (length text) (a + 1) b → IsChar text a b
char_is text a b begins stop = record {
  some = omega (arith, stop.from);
  within = stop.within;
  begins = begins;
  inner = λ k from below. inner_is (class_at text k) (stop.holds k (omega (arith, from)) below);
  ends = elim stop.stops [
    | inl is ↦ past_not_inner text b (omega (arith, is))
    | inr fails ↦ inner_not (class_at text b) fails
  ];
}

-- the character that begins at a place
pub char_end : (text : List ℕ) (a : ℕ) → a < length text → class_at text a ≢ Inner → (b : ℕ) × IsChar text a b
char_end text a within begins =
    let stop : (b : ℕ) × StopsAt (λ k. is_inner (class_at text k)) (length text) (a + 1) b = first_stop (λ k. is_inner (class_at text k)) (length text) (a + 1) (omega (arith, within)) in
    (stop.0, char_is text a stop.0 begins stop.1)

abbrev no_newline : List ℕ → ℕ → Bool
no_newline text k = not (eqb (get_or text k 0) 10)

line_is : (text : List ℕ) (a b : ℕ) → StopsAt (no_newline text) (length text) a b → GoesToNewline text a b
line_is text a b stop = record {
  from = stop.from;
  within = stop.within;
  none = λ k from below. eqb-false (get_or text k 0) 10 (not-true (eqb (get_or text k 0) 10) (stop.holds k from below));
  stops = elim stop.stops [
    | inl is ↦ inl is
    | inr fails ↦ inr (eqb-true (get_or text b 0) 10 (not-false (eqb (get_or text b 0) 10) fails))
  ];
}

-- the next newline, or the end of the text
pub newline_at : (text : List ℕ) (a : ℕ) → a ≤ length text → (b : ℕ) × GoesToNewline text a b
newline_at text a within =
    let stop : (b : ℕ) × StopsAt (no_newline text) (length text) a b = first_stop (no_newline text) (length text) a within in
    (stop.0, line_is text a stop.0 stop.1)
