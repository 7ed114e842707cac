-- At one place stands one token, not empty and within the text.
use Rattle.std.proofs.Common.{◌≡◌, ◌≢◌, ℕ, ◌+◌, ◌<◌, ◌≤◌, ◌⊎◌, List, length, Some, None, true, false, get_or, if◌then◌else◌, ap, sym, ◌∙◌, subst, refl, inl, inr, arith}
use Rattle.std.specs.Char.{digit_value}
use Rattle.std.proofs.lemmas.Bool.{cases_lt, cases_eq}
use Rattle.std.proofs.lemmas.Bool.Decides.{nat_tests}
use Rattle.prolog_tokens.specs.declared.chars.Class.{Class}
use Rattle.prolog_tokens.specs.declared.chars.Class.TheVariants.{White, Small, Capital, Digit, SingleQuote, DoubleQuote, BackQuote, RoundOpen, RoundClose, SquareOpen, SquareClose, CurlyOpen, CurlyClose, CommaSign, BarSign, Percent, Dot, Slash, Solo, Graphic, Further, OrderMark, Inner, Other}
use Rattle.prolog_tokens.specs.declared.token.Kind.{Kind}
use Rattle.prolog_tokens.specs.declared.token.Kind.TheVariants.{Name, Quoted, Variable, Integer, Float, Str, BackStr, OpenRound, CloseRound, OpenSquare, CloseSquare, OpenCurly, CloseCurly, Comma, Bar, End}
use Rattle.prolog_tokens.specs.Chars.{class_at}
use Rattle.prolog_tokens.specs.Quoted.{IsQuote, twice, escape}
use Rattle.prolog_tokens.specs.Numbers.{Code, doubled, escaped, itself, IsCode, Form, plain_digits, based, code, base_of, IsIntegerBy, is_sign, after_sign, IsExponent, IsFloat}
use Rattle.prolog_tokens.specs.Spelling.{Spells, IsSpelled}
use Rattle.prolog_tokens.proofs.Parts.{part_after}
use Rattle.prolog_tokens.proofs.Families.{SpellsBy, by_class, token_here}
use Rattle.prolog_tokens.proofs.Once.{among_digits, closed_some, closed_within}

pub single_quote : IsQuote 39
single_quote = inl refl

pub double_quote : IsQuote 34
double_quote = inr (inl refl)

pub back_quote : IsQuote 96
back_quote = inr (inr refl)

pub code_some : (text : List ℕ) (a n b : ℕ) (how : Code) → IsCode text a n b how → a < b
code_some text a n b doubled d = part_after text 39 a twice b d.1
code_some text a n b escaped d = part_after text 39 a (escape (Some n)) b d
code_some text a n b itself d = d.char.some

code_within : (text : List ℕ) (a n b : ℕ) (how : Code) → IsCode text a n b how → b ≤ length text
code_within text a n b doubled d = d.1.within
code_within text a n b escaped d = d.within
code_within text a n b itself d = d.char.within

integer_some : (text : List ℕ) (a n b : ℕ) (form : Form) → IsIntegerBy text a n b form → a < b
integer_some text a n b plain_digits d = d.writes.digits.some
integer_some text a n b (based base) d = omega (arith, d.writes.digits.some)
integer_some text a n b (code how) d = omega (arith, code_some text (a + 2) n b how d.1)

integer_within : (text : List ℕ) (a n b : ℕ) (form : Form) → IsIntegerBy text a n b form → b ≤ length text
integer_within text a n b plain_digits d = d.writes.digits.within
integer_within text a n b (based base) d = d.writes.digits.within
integer_within text a n b (code how) d = code_within text (a + 2) n b how d.1

pub after_sign_from : (text : List ℕ) (a : ℕ) → a ≤ after_sign text a
after_sign_from text a = elim (is_sign (get_or text a 0)) as (λ s. a ≤ (if s then a + 1 else a)) [ true ↦ omega arith | false ↦ omega arith ]

pub exponent_from : (text : List ℕ) (a b : ℕ) → IsExponent text a b → a ≤ b
exponent_from text a b (inl is) = omega (arith, is)
exponent_from text a b (inr d) = omega (arith, d.1.some, after_sign_from text (a + 1))

exponent_within : (text : List ℕ) (a b : ℕ) → a ≤ length text → IsExponent text a b → b ≤ length text
exponent_within text a b here (inl is) = omega (arith, is, here)
exponent_within text a b here (inr d) = d.1.within

pub float_some : (text : List ℕ) (a b : ℕ) → (d : IsFloat text a b) → d.dot < b
float_some text a b d = omega (arith, d.fraction.part.some, exponent_from text d.fraction.after b d.fraction.exponent)

-- a token is not empty
pub token_some : (text : List ℕ) (a b : ℕ) (k : Kind) → Spells text a b k → a < b
token_some text a b Name (inl w) = w.some
token_some text a b Name (inr (inl n)) = n.run.some
token_some text a b Name (inr (inr s)) = omega (arith, s.one)
token_some text a b Quoted q = closed_some text 39 a b q
token_some text a b Variable w = w.some
token_some text a b Integer d = integer_some text a d.0 b d.1.form d.1.by
token_some text a b Float d = omega (arith, d.whole.some, float_some text a b d)
token_some text a b Str q = closed_some text 34 a b q
token_some text a b BackStr q = closed_some text 96 a b q
token_some text a b OpenRound s = omega (arith, s.one)
token_some text a b CloseRound s = omega (arith, s.one)
token_some text a b OpenSquare s = omega (arith, s.one)
token_some text a b CloseSquare s = omega (arith, s.one)
token_some text a b OpenCurly s = omega (arith, s.one)
token_some text a b CloseCurly s = omega (arith, s.one)
token_some text a b Comma s = omega (arith, s.one)
token_some text a b Bar s = omega (arith, s.one)
token_some text a b End e = e.run.some

within_by : (text : List ℕ) (a b : ℕ) (k : Kind) → a < length text → Spells text a b k → b ≤ length text
within_by text a b Name here (inl w) = w.within
within_by text a b Name here (inr (inl n)) = n.run.within
within_by text a b Name here (inr (inr s)) = omega (arith, s.one)
within_by text a b Quoted here q = closed_within text 39 a b single_quote q
within_by text a b Variable here w = w.within
within_by text a b Integer here d = integer_within text a d.0 b d.1.form d.1.by
within_by text a b Float here d = exponent_within text d.fraction.after b d.fraction.part.within d.fraction.exponent
within_by text a b Str here q = closed_within text 34 a b double_quote q
within_by text a b BackStr here q = closed_within text 96 a b back_quote q
within_by text a b OpenRound here s = omega (arith, s.one)
within_by text a b CloseRound here s = omega (arith, s.one)
within_by text a b OpenSquare here s = omega (arith, s.one)
within_by text a b CloseSquare here s = omega (arith, s.one)
within_by text a b OpenCurly here s = omega (arith, s.one)
within_by text a b CloseCurly here s = omega (arith, s.one)
within_by text a b Comma here s = omega (arith, s.one)
within_by text a b Bar here s = omega (arith, s.one)
within_by text a b End here e = e.run.within

-- and stands within the text
pub token_within : (text : List ℕ) (a b : ℕ) (k : Kind) → Spells text a b k → b ≤ length text
token_within text a b k s = within_by text a b k (token_here text a b k s) s

-- the byte behind the first digit of a float is a digit or the dot
pub float_second : (text : List ℕ) (a b v : ℕ) → IsFloat text a b → get_or text (a + 1) 0 ≡ v → 10 ≤ digit_value v → v ≢ 46 → ⊥
float_second text a b v d is none ne = elim (cases_lt (a + 1) d.dot) [
  | inl lt ↦ among_digits 10 text a d.dot (a + 1) v d.whole (omega arith) lt is none
  | inr le ↦
      let dot : d.dot ≡ a + 1 = omega (arith, d.whole.some) in
      ne (sym is ∙ ap (λ n. get_or text n 0) (sym dot) ∙ d.fraction.dot)
]

letter_is : (v base : ℕ) → base_of v ≡ Some base → (v ≡ 98) ⊎ ((v ≡ 111) ⊎ (v ≡ 120))
letter_is v base is = elim (cases_eq v 98) [
  | inl two ↦ inl two
  | inr ne ↦ elim (cases_eq v 111) [
    | inl eight ↦ inr (inl eight)
    | inr ne' ↦ elim (cases_eq v 120) [
      | inl sixteen ↦ inr (inr sixteen)
      | inr ne'' ↦
          let none : base_of v ≡ None = grind (arith, nat_tests) in
          let both : Some base ≡ None = sym is ∙ none in
          cc
    ]
  ]
]

-- the letter of a base is no digit and no dot
pub base_letter : (v base : ℕ) → base_of v ≡ Some base → (10 ≤ digit_value v) × (v ≢ 46)
base_letter v base is = elim (letter_is v base is) [
  | inl two ↦ subst (λ n. (10 ≤ digit_value n) × (n ≢ 46)) (sym two) (omega arith, λ e. omega (arith, e))
  | inr (inl eight) ↦ subst (λ n. (10 ≤ digit_value n) × (n ≢ 46)) (sym eight) (omega arith, λ e. omega (arith, e))
  | inr (inr sixteen) ↦ subst (λ n. (10 ≤ digit_value n) × (n ≢ 46)) (sym sixteen) (omega arith, λ e. omega (arith, e))
]

-- no spelling is that of an integer and of a float
pub integer_no_float : (text : List ℕ) (a n b : ℕ) (form : Form) → IsIntegerBy text a n b form → IsFloat text a b → ⊥
integer_no_float text a n b plain_digits d f =
    among_digits 10 text a b f.dot 46 d.writes.digits (omega (arith, f.whole.some)) (float_some text a b f) f.fraction.dot (omega arith)
integer_no_float text a n b (based base) d f =
    let letter : (10 ≤ digit_value (get_or text (a + 1) 0)) × (get_or text (a + 1) 0 ≢ 46) = base_letter (get_or text (a + 1) 0) base d.letter in
    float_second text a b (get_or text (a + 1) 0) f refl letter.0 letter.1
integer_no_float text a n b (code how) d f = float_second text a b 39 f d.0.quote (omega arith) (λ e. omega (arith, e))

kind_by : (text : List ℕ) (a b : ℕ) (k j : Kind) (class : Class) → SpellsBy text a b k class → SpellsBy text a b j class → k ≡ j
kind_by text a b k j Digit (inl x) (inl y) = x.0 ∙ sym y.0
kind_by text a b k j Digit (inl x) (inr y) = absurd (integer_no_float text a x.1.0 b x.1.1.form x.1.1.by y.1)
kind_by text a b k j Digit (inr x) (inl y) = absurd (integer_no_float text a y.1.0 b y.1.1.form y.1.1.by x.1)
kind_by text a b k j Digit (inr x) (inr y) = x.0 ∙ sym y.0
kind_by text a b k j Dot (inl x) (inl y) = x.0 ∙ sym y.0
kind_by text a b k j Dot (inl x) (inr y) = absurd (x.1.no_end y.1)
kind_by text a b k j Dot (inr x) (inl y) = absurd (y.1.no_end x.1)
kind_by text a b k j Dot (inr x) (inr y) = x.0 ∙ sym y.0
kind_by text a b k j White x y = absurd x
kind_by text a b k j Percent x y = absurd x
kind_by text a b k j Further x y = absurd x
kind_by text a b k j OrderMark x y = absurd x
kind_by text a b k j Inner x y = absurd x
kind_by text a b k j Other x y = absurd x
kind_by text a b k j Small x y = x.0 ∙ sym y.0
kind_by text a b k j Capital x y = x.0 ∙ sym y.0
kind_by text a b k j SingleQuote x y = x.0 ∙ sym y.0
kind_by text a b k j DoubleQuote x y = x.0 ∙ sym y.0
kind_by text a b k j BackQuote x y = x.0 ∙ sym y.0
kind_by text a b k j RoundOpen x y = x.0 ∙ sym y.0
kind_by text a b k j RoundClose x y = x.0 ∙ sym y.0
kind_by text a b k j SquareOpen x y = x.0 ∙ sym y.0
kind_by text a b k j SquareClose x y = x.0 ∙ sym y.0
kind_by text a b k j CurlyOpen x y = x.0 ∙ sym y.0
kind_by text a b k j CurlyClose x y = x.0 ∙ sym y.0
kind_by text a b k j CommaSign x y = x.0 ∙ sym y.0
kind_by text a b k j BarSign x y = x.0 ∙ sym y.0
kind_by text a b k j Slash x y = x.0 ∙ sym y.0
kind_by text a b k j Solo x y = x.0 ∙ sym y.0
kind_by text a b k j Graphic x y = x.0 ∙ sym y.0

-- one spelling is of one kind
pub kind_once : (text : List ℕ) (a b : ℕ) (k j : Kind) → Spells text a b k → Spells text a b j → k ≡ j
kind_once text a b k j s t = kind_by text a b k j (class_at text a) (by_class text a b k s) (by_class text a b j t)

pub record SameToken (k j : Kind) (b e : ℕ) : Type 0 where
  pub kind : k ≡ j
  pub ends : b ≡ e

-- the longest token at a place is one
pub token_once : (text : List ℕ) (a b e : ℕ) (k j : Kind) → IsSpelled text k a b → IsSpelled text j a e → SameToken k j b e
token_once text a b e k j s t =
    let below : b ≤ e = t.longest k b s.spells in
    let above : e ≤ b = s.longest j e t.spells in
    let ends : b ≡ e = omega arith in
    record { kind = kind_once text a b k j s.spells (subst (λ n. Spells text a n j) (sym ends) t.spells); ends = ends }
