-- The class at a place tells the kind of the token that begins there, but for Integer or Float and for Name or End, and how it is spelled.
use Rattle.std.proofs.Common.{◌≡◌, ℕ, ◌+◌, ◌<◌, ◌≤◌, ◌⊎◌, List, length, true, get_or, sym, ◌∙◌, subst, refl, inl, inr, arith}
use Rattle.std.specs.Int.{IsInRange}
use Rattle.std.specs.Char.{digit_value}
use Rattle.std.proofs.lemmas.Bool.Decides.{nat_tests}
use Rattle.std.proofs.lemmas.Str.Parse.{digit_from_value}
use Rattle.prolog_tokens.specs.declared.chars.Class.{Class}
use Rattle.prolog_tokens.specs.declared.chars.Class.TheVariants.{White, Small, Capital, Digit, SingleQuote, DoubleQuote, BackQuote, RoundOpen, RoundClose, SquareOpen, SquareClose, CurlyOpen, CurlyClose, CommaSign, BarSign, Percent, Dot, Slash, Solo, Graphic, Further, OrderMark, Inner, Other}
use Rattle.prolog_tokens.specs.declared.token.Kind.{Kind}
use Rattle.prolog_tokens.specs.declared.token.Kind.TheVariants.{Name, Quoted, Variable, Integer, Float, Str, BackStr, OpenRound, CloseRound, OpenSquare, CloseSquare, OpenCurly, CloseCurly, Comma, Bar, End}
use Rattle.prolog_tokens.specs.Chars.{ascii_class, class_at, is_graphic}
use Rattle.prolog_tokens.specs.Digits.{IsDigits}
use Rattle.prolog_tokens.specs.Quoted.{IsQuoted}
use Rattle.prolog_tokens.specs.Numbers.{Form, plain_digits, based, code, IsIntegerBy, IsFloat}
use Rattle.prolog_tokens.specs.Spelling.{IsWord, IsGraphicName, IsEnd, IsIntegerWord, Spells}
use Rattle.prolog_tokens.proofs.Classes.{byte_class, class_here}

digit_class : (b : ℕ) → 48 ≤ b → b ≤ 57 → ascii_class b ≡ Digit
digit_class b low high = grind (arith, nat_tests)

-- a digit of base ten has the class Digit
pub digit_here : (text : List ℕ) (a : ℕ) → digit_value (get_or text a 0) < 10 → class_at text a ≡ Digit
digit_here text a h =
    let range : IsInRange 48 57 (get_or text a 0) = digit_from_value (get_or text a 0) h in
    byte_class text a (get_or text a 0) refl (omega (arith, range.1)) ∙ digit_class (get_or text a 0) (omega (arith, range.0)) (omega (arith, range.1))

pub digits_here : (text : List ℕ) (a b : ℕ) → IsDigits 10 text a b → class_at text a ≡ Digit
digits_here text a b d = digit_here text a (d.digits a (omega arith) d.some)

-- the kind and the spelling of a token whose first character is of the class
abbrev pub SpellsBy : List ℕ → ℕ → ℕ → Kind → Class → Type 0
SpellsBy text a b k White = ⊥
SpellsBy text a b k Small = (k ≡ Name) × IsWord Small text a b
SpellsBy text a b k Capital = (k ≡ Variable) × IsWord Capital text a b
SpellsBy text a b k Digit = ((k ≡ Integer) × IsIntegerWord text a b) ⊎ ((k ≡ Float) × IsFloat text a b)
SpellsBy text a b k SingleQuote = (k ≡ Quoted) × IsQuoted text 39 a b
SpellsBy text a b k DoubleQuote = (k ≡ Str) × IsQuoted text 34 a b
SpellsBy text a b k BackQuote = (k ≡ BackStr) × IsQuoted text 96 a b
SpellsBy text a b k RoundOpen = (k ≡ OpenRound) × (b ≡ a + 1)
SpellsBy text a b k RoundClose = (k ≡ CloseRound) × (b ≡ a + 1)
SpellsBy text a b k SquareOpen = (k ≡ OpenSquare) × (b ≡ a + 1)
SpellsBy text a b k SquareClose = (k ≡ CloseSquare) × (b ≡ a + 1)
SpellsBy text a b k CurlyOpen = (k ≡ OpenCurly) × (b ≡ a + 1)
SpellsBy text a b k CurlyClose = (k ≡ CloseCurly) × (b ≡ a + 1)
SpellsBy text a b k CommaSign = (k ≡ Comma) × (b ≡ a + 1)
SpellsBy text a b k BarSign = (k ≡ Bar) × (b ≡ a + 1)
SpellsBy text a b k Percent = ⊥
SpellsBy text a b k Dot = ((k ≡ Name) × IsGraphicName text a b) ⊎ ((k ≡ End) × IsEnd text a b)
SpellsBy text a b k Slash = (k ≡ Name) × IsGraphicName text a b
SpellsBy text a b k Solo = (k ≡ Name) × (b ≡ a + 1)
SpellsBy text a b k Graphic = (k ≡ Name) × IsGraphicName text a b
SpellsBy text a b k Further = ⊥
SpellsBy text a b k OrderMark = ⊥
SpellsBy text a b k Inner = ⊥
SpellsBy text a b k Other = ⊥

graphic_by : (text : List ℕ) (a b : ℕ) (class : Class) → is_graphic class ≡ true → IsGraphicName text a b → SpellsBy text a b Name class
graphic_by text a b Dot is n = inl (refl, n)
graphic_by text a b Slash is n = (refl, n)
graphic_by text a b Graphic is n = (refl, n)
graphic_by text a b _ is n = let none : ⊥ = cc in absurd none

integer_class : (text : List ℕ) (a n b : ℕ) (form : Form) → IsIntegerBy text a n b form → class_at text a ≡ Digit
integer_class text a n b plain_digits d = digits_here text a b d.writes.digits
integer_class text a n b (based base) d = byte_class text a 48 d.zero_digit (omega arith)
integer_class text a n b (code how) d = byte_class text a 48 d.0.zero_digit (omega arith)

pub by_class : (text : List ℕ) (a b : ℕ) (k : Kind) → Spells text a b k → SpellsBy text a b k (class_at text a)
by_class text a b Name (inl w) = subst (SpellsBy text a b Name) (sym w.begins) (refl, w)
by_class text a b Name (inr (inl n)) = graphic_by text a b (class_at text a) (n.run.graphic a (omega arith) n.run.some) n
by_class text a b Name (inr (inr s)) = subst (SpellsBy text a b Name) (sym s.is) (refl, s.one)
by_class text a b Quoted q = subst (SpellsBy text a b Quoted) (sym (byte_class text a 39 q.opens (omega arith))) (refl, q)
by_class text a b Variable w = subst (SpellsBy text a b Variable) (sym w.begins) (refl, w)
by_class text a b Integer d = subst (SpellsBy text a b Integer) (sym (integer_class text a d.0 b d.1.form d.1.by)) (inl (refl, d))
by_class text a b Float d = subst (SpellsBy text a b Float) (sym (digits_here text a d.dot d.whole)) (inr (refl, d))
by_class text a b Str q = subst (SpellsBy text a b Str) (sym (byte_class text a 34 q.opens (omega arith))) (refl, q)
by_class text a b BackStr q = subst (SpellsBy text a b BackStr) (sym (byte_class text a 96 q.opens (omega arith))) (refl, q)
by_class text a b OpenRound s = subst (SpellsBy text a b OpenRound) (sym s.is) (refl, s.one)
by_class text a b CloseRound s = subst (SpellsBy text a b CloseRound) (sym s.is) (refl, s.one)
by_class text a b OpenSquare s = subst (SpellsBy text a b OpenSquare) (sym s.is) (refl, s.one)
by_class text a b CloseSquare s = subst (SpellsBy text a b CloseSquare) (sym s.is) (refl, s.one)
by_class text a b OpenCurly s = subst (SpellsBy text a b OpenCurly) (sym s.is) (refl, s.one)
by_class text a b CloseCurly s = subst (SpellsBy text a b CloseCurly) (sym s.is) (refl, s.one)
by_class text a b Comma s = subst (SpellsBy text a b Comma) (sym s.is) (refl, s.one)
by_class text a b Bar s = subst (SpellsBy text a b Bar) (sym s.is) (refl, s.one)
by_class text a b End e = subst (SpellsBy text a b End) (sym (byte_class text a 46 e.dot (omega arith))) (inr (refl, e))

-- the kind and the spelling at a place whose class is known
pub by_this : (text : List ℕ) (a b : ℕ) (k : Kind) (class : Class) → class_at text a ≡ class → Spells text a b k → SpellsBy text a b k class
by_this text a b k class is s = subst (SpellsBy text a b k) is (by_class text a b k s)

-- a token begins within the text
pub token_here : (text : List ℕ) (a b : ℕ) (k : Kind) → Spells text a b k → a < length text
token_here text a b k s = class_here text a (λ is. by_this text a b k Other is s)
