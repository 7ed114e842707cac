-- In a text, a character begins where layout or a token ends, and where a fault is told.
use Rattle.std.proofs.Common.{◌≡◌, ◌≢◌, ℕ, ◌+◌, ◌-◌, ◌<◌, ◌≤◌, List, length, Option, Some, None, Bool, true, false, ◌==◌, cond, get_or, ap, sym, ◌∙◌, subst, refl, inl, inr, arith}
use Rattle.std.specs.Option.{IfSome}
use Rattle.std.specs.Char.{digit_value}
use Rattle.std.specs.Str.{IsUtf8}
use Rattle.std.proofs.lemmas.Str.{IsUtf8-take}
use Rattle.std.proofs.lemmas.Bool.{cases_lt}
use Rattle.std.proofs.lemmas.Bool.Decides.{nat_tests}
use Rattle.prolog_tokens.specs.declared.chars.Class.{Class}
use Rattle.prolog_tokens.specs.declared.chars.Class.TheVariants.{Solo, RoundOpen, RoundClose, SquareOpen, SquareClose, CurlyOpen, CurlyClose, CommaSign, BarSign, Further, OrderMark, Inner, Other}
use Rattle.prolog_tokens.specs.declared.escapes.Mark.{Mark}
use Rattle.prolog_tokens.specs.declared.escapes.Mark.TheVariants.{Letter, Octal, Hex, Newline, Nothing}
use Rattle.prolog_tokens.specs.declared.token.Kind.{Kind}
use Rattle.prolog_tokens.specs.declared.token.Kind.TheVariants.{Name, Quoted, Variable, Integer, Float, Str, BackStr, OpenRound, CloseRound, OpenSquare, CloseSquare, OpenCurly, CloseCurly, Comma, Bar, End}
use Rattle.prolog_tokens.specs.declared.token.TokenFault.{TokenFault}
use Rattle.prolog_tokens.specs.declared.token.TokenFault.TheVariants.{BadChar, OpenQuote, OpenComment, BadEscape, NoMemory}
use Rattle.prolog_tokens.specs.Chars.{class_at}
use Rattle.prolog_tokens.specs.Digits.{IsDigits}
use Rattle.prolog_tokens.specs.Escapes.{mark_of, IsCoded, EscapeBy, IsEscape}
use Rattle.prolog_tokens.specs.Quoted.{IsQuoted}
use Rattle.prolog_tokens.specs.Numbers.{Code, doubled, escaped, itself, IsCode, Form, plain_digits, based, code, base_of, IsIntegerBy, IsFloat}
use Rattle.prolog_tokens.specs.Layout.{GoesToNewline, Sort, white, line, bracketed, mark, hash_bang, IsPiece}
use Rattle.prolog_tokens.specs.Spelling.{IsRun, IsSign, Spells}
use Rattle.prolog_tokens.specs.Faults.{IsWrong}
use Rattle.prolog_tokens.specs.Places.{IsOffset, fault_offset}
use Rattle.prolog_tokens.proofs.Classes.{here, ascii_only, ascii_byte, graphic_byte, ascii_begins, past_not_inner, begins_behind, may_cut}
use Rattle.prolog_tokens.proofs.Parts.{quote_sign}

-- a character begins behind an ASCII byte
behind : (text : List ℕ) (b : ℕ) → IsUtf8 text → 0 < b → get_or text (b - 1) 0 < 128 → class_at text b ≢ Inner
behind text b utf8 some small = let is : b - 1 + 1 ≡ b = omega arith in subst (λ n. class_at text n ≢ Inner) is (begins_behind text (b - 1) utf8 small)

run_boundary : (text : List ℕ) (a b : ℕ) → IsUtf8 text → IsRun text a b → class_at text b ≢ Inner
run_boundary text a b utf8 run =
    behind text b utf8 (omega (arith, run.some)) (graphic_byte text (b - 1) (run.graphic (b - 1) (omega (arith, run.some)) (omega (arith, run.some))))

sign_boundary : (class : Class) (text : List ℕ) (a b : ℕ) → ascii_only class ≡ true → IsUtf8 text → IsSign class text a b → class_at text b ≢ Inner
sign_boundary class text a b only utf8 s = subst (λ n. class_at text n ≢ Inner) (sym s.one) (begins_behind text a utf8 (ascii_byte text a (ap ascii_only s.is ∙ only)))

quoted_boundary : (text : List ℕ) (q a b : ℕ) → q < 128 → IsUtf8 text → IsQuoted text q a b → class_at text b ≢ Inner
quoted_boundary text q a b small utf8 x = subst (λ n. class_at text n ≢ Inner) (sym x.ends) (begins_behind text x.close utf8 (omega (arith, x.closes)))

digit_ascii : (v base : ℕ) → base ≤ 36 → digit_value v < base → v < 128
digit_ascii v base small digit = elim (cases_lt v 128) [
  | inl lt ↦ lt
  | inr le ↦ let none : digit_value v ≡ 36 = grind (arith, nat_tests) in absurd (omega arith)
]

digits_boundary : (base : ℕ) (text : List ℕ) (a b : ℕ) → base ≤ 36 → IsUtf8 text → IsDigits base text a b → class_at text b ≢ Inner
digits_boundary base text a b small utf8 x =
    behind text b utf8 (omega (arith, x.some)) (digit_ascii (get_or text (b - 1) 0) base small (x.digits (b - 1) (omega (arith, x.some)) (omega (arith, x.some))))

-- the bases of integers are small
abbrev IsSmallBase : Option ℕ → Type 0
IsSmallBase (Some base) = base ≤ 36
IsSmallBase None = Unit {0}

small_choice : (t : Bool) (x y : Option ℕ) → IsSmallBase x → IsSmallBase y → IsSmallBase (cond t x y)
small_choice true x y p q = p
small_choice false x y p q = q

base_small : (v base : ℕ) → base_of v ≡ Some base → base ≤ 36
base_small v base is =
    let all : IsSmallBase (base_of v) =
    small_choice (v == 98) (Some 2) (cond (v == 111) (Some 8) (cond (v == 120) (Some 16) None)) (omega arith) (
    small_choice (v == 111) (Some 8) (cond (v == 120) (Some 16) None) (omega arith) (
    small_choice (v == 120) (Some 16) None (omega arith) tt)) in
    subst IsSmallBase is all

-- a byte that means something behind a backslash is ASCII
mark_ascii : (v : ℕ) → mark_of v ≢ Nothing → v < 128
mark_ascii v ne = elim (cases_lt v 128) [
  | inl lt ↦ lt
  | inr le ↦ let none : mark_of v ≡ Nothing = grind (arith, nat_tests) in absurd (ne none)
]

coded_boundary : (base : ℕ) (text : List ℕ) (a : ℕ) (c : Option ℕ) (b : ℕ) → IsUtf8 text → IsCoded base text a c b → class_at text b ≢ Inner
coded_boundary base text a c b utf8 x = subst (λ n. class_at text n ≢ Inner) (sym x.ends) (begins_behind text x.close utf8 (omega (arith, x.backslash)))

-- or behind an ASCII byte that is the second one of two
pub short_boundary : (text : List ℕ) (a b : ℕ) → IsUtf8 text → get_or text (a + 1) 0 < 128 → b ≡ a + 2 → class_at text b ≢ Inner
short_boundary text a b utf8 small ends = let is : a + 1 + 1 ≡ b = omega arith in subst (λ n. class_at text n ≢ Inner) is (begins_behind text (a + 1) utf8 small)

escape_by_boundary : (text : List ℕ) (a : ℕ) (c : Option ℕ) (b : ℕ) (m : Mark) → IsUtf8 text → (m ≢ Nothing → get_or text (a + 1) 0 < 128) → EscapeBy text a c b m → class_at text b ≢ Inner
escape_by_boundary text a c b (Letter v) utf8 small x = short_boundary text a b utf8 (small (λ e. cc)) x.1
escape_by_boundary text a c b Newline utf8 small x = short_boundary text a b utf8 (small (λ e. cc)) x.1
escape_by_boundary text a c b Octal utf8 small x = coded_boundary 8 text (a + 1) c b utf8 x
escape_by_boundary text a c b Hex utf8 small x = coded_boundary 16 text (a + 2) c b utf8 x
escape_by_boundary text a c b Nothing utf8 small x = absurd x

pub escape_boundary : (text : List ℕ) (a : ℕ) (c : Option ℕ) (b : ℕ) → IsUtf8 text → IsEscape text a c b → class_at text b ≢ Inner
escape_boundary text a c b utf8 x = escape_by_boundary text a c b (mark_of (get_or text (a + 1) 0)) utf8 (mark_ascii (get_or text (a + 1) 0)) x.by

code_boundary : (text : List ℕ) (a c b : ℕ) (how : Code) → IsUtf8 text → IsCode text a c b how → class_at text b ≢ Inner
code_boundary text a c b doubled utf8 x = short_boundary text a b utf8 (omega (arith, x.1.by.1)) x.1.by.2
code_boundary text a c b escaped utf8 x = escape_boundary text a (Some c) b utf8 x.by
code_boundary text a c b itself utf8 x = x.char.ends

integer_boundary : (text : List ℕ) (a n b : ℕ) (form : Form) → IsUtf8 text → IsIntegerBy text a n b form → class_at text b ≢ Inner
integer_boundary text a n b plain_digits utf8 x = digits_boundary 10 text a b (omega arith) utf8 x.writes.digits
integer_boundary text a n b (based base) utf8 x = digits_boundary base text (a + 2) b (base_small (get_or text (a + 1) 0) base x.letter) utf8 x.writes.digits
integer_boundary text a n b (code how) utf8 x = code_boundary text (a + 2) n b how utf8 x.1

float_boundary : (text : List ℕ) (a b : ℕ) → IsUtf8 text → IsFloat text a b → class_at text b ≢ Inner
float_boundary text a b utf8 x = elim x.fraction.exponent [
  | inl is ↦ subst (λ n. class_at text n ≢ Inner) is (digits_boundary 10 text (x.dot + 1) x.fraction.after (omega arith) utf8 x.fraction.part)
  | inr (is, digits) ↦ digits_boundary 10 text _ b (omega arith) utf8 digits
]

-- where a token ends a character begins
pub token_boundary : (text : List ℕ) (a b : ℕ) (k : Kind) → IsUtf8 text → Spells text a b k → class_at text b ≢ Inner
token_boundary text a b Name utf8 (inl x) = x.ends
token_boundary text a b Name utf8 (inr (inl x)) = run_boundary text a b utf8 x.run
token_boundary text a b Name utf8 (inr (inr x)) = sign_boundary Solo text a b refl utf8 x
token_boundary text a b Quoted utf8 x = quoted_boundary text 39 a b (omega arith) utf8 x
token_boundary text a b Variable utf8 x = x.ends
token_boundary text a b Integer utf8 x = integer_boundary text a x.0 b x.1.form utf8 x.1.by
token_boundary text a b Float utf8 x = float_boundary text a b utf8 x
token_boundary text a b Str utf8 x = quoted_boundary text 34 a b (omega arith) utf8 x
token_boundary text a b BackStr utf8 x = quoted_boundary text 96 a b (omega arith) utf8 x
token_boundary text a b OpenRound utf8 x = sign_boundary RoundOpen text a b refl utf8 x
token_boundary text a b CloseRound utf8 x = sign_boundary RoundClose text a b refl utf8 x
token_boundary text a b OpenSquare utf8 x = sign_boundary SquareOpen text a b refl utf8 x
token_boundary text a b CloseSquare utf8 x = sign_boundary SquareClose text a b refl utf8 x
token_boundary text a b OpenCurly utf8 x = sign_boundary CurlyOpen text a b refl utf8 x
token_boundary text a b CloseCurly utf8 x = sign_boundary CurlyClose text a b refl utf8 x
token_boundary text a b Comma utf8 x = sign_boundary CommaSign text a b refl utf8 x
token_boundary text a b Bar utf8 x = sign_boundary BarSign text a b refl utf8 x
token_boundary text a b End utf8 x = run_boundary text a b utf8 x.run

newline_boundary : (text : List ℕ) (a b : ℕ) → GoesToNewline text a b → class_at text b ≢ Inner
newline_boundary text a b x = elim x.stops [
  | inl is ↦ past_not_inner text b (omega (arith, is))
  | inr is ↦ ascii_begins text b (omega (arith, is))
]

-- where a piece of layout does
pub piece_boundary : (text : List ℕ) (a b : ℕ) (s : Sort) → IsUtf8 text → IsPiece text a b s → class_at text b ≢ Inner
piece_boundary text a b white utf8 x = x.1.ends
piece_boundary text a b line utf8 x = newline_boundary text a b x.1
piece_boundary text a b bracketed utf8 x = short_boundary text x.close b utf8 (omega (arith, x.closes.slash)) x.ends
piece_boundary text a b mark utf8 x = x.1.char.ends
piece_boundary text a b hash_bang utf8 x = newline_boundary text a b x.1

offset_here : (text : List ℕ) (at : ℕ) → IsUtf8 text → at < length text → class_at text at ≢ Inner → IsOffset text at
offset_here text at utf8 within begins = record { within = omega arith; utf8 = IsUtf8-take text at utf8 (may_cut text at (omega arith) begins) }

byte_offset : (text : List ℕ) (at b : ℕ) → IsUtf8 text → get_or text at 0 ≡ b → 0 < b → b < 128 → IsOffset text at
byte_offset text at b utf8 is some small = offset_here text at utf8 (here text at b is some) (ascii_begins text at (omega (arith, is)))

-- and where a fault is told whole characters stand before it
pub wrong_offset : (text : List ℕ) (s : ℕ) (fault : TokenFault) → IsUtf8 text → IsWrong text s fault → IfSome (fault_offset fault) (λ at. IsOffset text at)
wrong_offset text s (BadChar at) utf8 (is, x) = subst (IsOffset text) (sym is) (offset_here text s utf8 x.within (λ inner. elim x.begins_none [
  | inl e ↦ let both : Inner ≡ Other = sym inner ∙ e in cc
  | inr (inl e) ↦ let both : Inner ≡ Further = sym inner ∙ e in cc
  | inr (inr (e, _)) ↦ let both : Inner ≡ OrderMark = sym inner ∙ e in cc
]))
wrong_offset text s (OpenQuote at) utf8 (is, (q, quote, x)) = subst (IsOffset text) (sym is) (byte_offset text s q utf8 x.opens (quote_sign q quote).some (quote_sign q quote).ascii)
wrong_offset text s (OpenComment at) utf8 (is, x) = subst (IsOffset text) (sym is) (byte_offset text s 47 utf8 x.opens.slash (omega arith) (omega arith))
wrong_offset text s (BadEscape at) utf8 (inl (q, quote, x)) = byte_offset text at 92 utf8 x.backslash (omega arith) (omega arith)
wrong_offset text s (BadEscape at) utf8 (inr x) = byte_offset text at 92 utf8 x.backslash (omega arith) (omega arith)
wrong_offset text s NoMemory utf8 x = absurd x
