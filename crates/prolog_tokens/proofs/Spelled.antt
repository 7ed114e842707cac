-- The longest token of each class of first characters.
use Rattle.std.proofs.Common.{◌≡◌, ℕ, ◌+◌, ◌<◌, ◌≤◌, List, length, Option, Some, None, Result, Ok, Err, true, false, get_or, ap, sym, ◌∙◌, subst, refl, inl, inr, arith}
use Rattle.std.specs.Char.{digit_value}
use Rattle.std.specs.Result.{MatchResult}
use Rattle.std.proofs.lemmas.Bool.{cases_lt}
use Rattle.std.proofs.lemmas.Bool.Decides.{nat_tests}
use Rattle.prolog_tokens.specs.declared.chars.Class.{Class}
use Rattle.prolog_tokens.specs.declared.chars.Class.TheVariants.{Small, Capital, Digit, SingleQuote, DoubleQuote, BackQuote, RoundOpen, RoundClose, SquareOpen, SquareClose, CurlyOpen, CurlyClose, CommaSign, BarSign, Dot, Slash, Solo, Graphic}
use Rattle.prolog_tokens.specs.declared.token.Kind.{Kind}
use Rattle.prolog_tokens.specs.declared.token.Kind.TheVariants.{Name, Quoted, Variable, Str, BackStr, OpenRound, CloseRound, OpenSquare, CloseSquare, OpenCurly, CloseCurly, Comma, Bar, End}
use Rattle.prolog_tokens.specs.declared.token.TokenFault.{TokenFault}
use Rattle.prolog_tokens.specs.declared.spelling.Spelling.{Spelling}
use Rattle.prolog_tokens.specs.Faults.{IsWrong}
use Rattle.prolog_tokens.specs.Chars.{ascii_class, class_at, continues, is_graphic}
use Rattle.prolog_tokens.specs.Quoted.{IsQuoted}
use Rattle.prolog_tokens.specs.Spelling.{IsWord, IsRun, IsEnd, IsGraphicName, Spells, IsSpelled}
use Rattle.prolog_tokens.proofs.Classes.{byte_class, ascii_only, ascii_byte}
use Rattle.prolog_tokens.proofs.Families.{SpellsBy, by_class, by_this}
use Rattle.prolog_tokens.proofs.Once.{closed_once}
use Rattle.prolog_tokens.proofs.OneToken.{single_quote, double_quote, back_quote}

-- the byte that stands where the class does
single_byte : (b : ℕ) → ascii_class b ≡ SingleQuote → b ≡ 39
single_byte b is = grind (arith, nat_tests)

double_byte : (b : ℕ) → ascii_class b ≡ DoubleQuote → b ≡ 34
double_byte b is = grind (arith, nat_tests)

back_byte : (b : ℕ) → ascii_class b ≡ BackQuote → b ≡ 96
back_byte b is = grind (arith, nat_tests)

digit_byte : (b : ℕ) → ascii_class b ≡ Digit → digit_value b < 10
digit_byte b is = grind (arith, nat_tests)

only_class : (text : List ℕ) (a : ℕ) (class : Class) → ascii_only class ≡ true → class_at text a ≡ class → ascii_class (get_or text a 0) ≡ class
only_class text a class only is = sym (byte_class text a (get_or text a 0) refl (ascii_byte text a (ap ascii_only is ∙ only))) ∙ is

pub single_here : (text : List ℕ) (a : ℕ) → class_at text a ≡ SingleQuote → get_or text a 0 ≡ 39
single_here text a is = single_byte (get_or text a 0) (only_class text a SingleQuote refl is)

pub double_here : (text : List ℕ) (a : ℕ) → class_at text a ≡ DoubleQuote → get_or text a 0 ≡ 34
double_here text a is = double_byte (get_or text a 0) (only_class text a DoubleQuote refl is)

pub back_here : (text : List ℕ) (a : ℕ) → class_at text a ≡ BackQuote → get_or text a 0 ≡ 96
back_here text a is = back_byte (get_or text a 0) (only_class text a BackQuote refl is)

pub digit_there : (text : List ℕ) (a : ℕ) → class_at text a ≡ Digit → digit_value (get_or text a 0) < 10
digit_there text a is = digit_byte (get_or text a 0) (only_class text a Digit refl is)

-- all that goes on a word behind its first character
pub record GoesOn (text : List ℕ) (a b : ℕ) : Type 0 where
  pub from : a + 1 ≤ b
  pub within : b ≤ length text
  pub goes_on : (k : ℕ) → a + 1 ≤ k → k < b → continues (class_at text k) ≡ true
  pub stops : continues (class_at text b) ≡ false

word_is : (first : Class) (text : List ℕ) (a b : ℕ) → class_at text a ≡ first → GoesOn text a b → IsWord first text a b
word_is first text a b is rest = record {
  begins = is;
  some = omega (arith, rest.from);
  within = rest.within;
  goes_on = λ k from below. rest.goes_on k (omega arith) below;
  ends = λ inner. let both : true ≡ false = ap continues (sym inner) ∙ rest.stops in cc;
}

word_longest : (first : Class) (text : List ℕ) (a b e : ℕ) → GoesOn text a b → IsWord first text a e → e ≤ b
word_longest first text a b e rest word = elim (cases_lt b e) [
  | inl lt ↦ let both : true ≡ false = sym (word.goes_on b (omega (arith, rest.from)) lt) ∙ rest.stops in absurd cc
  | inr le ↦ le
]

pub name_spelled : (text : List ℕ) (a b : ℕ) → class_at text a ≡ Small → GoesOn text a b → IsSpelled text Name a b
name_spelled text a b is rest = record {
  spells = inl (word_is Small text a b is rest);
  longest = λ k e s. word_longest Small text a b e rest (by_this text a e k Small is s).1;
}

pub variable_spelled : (text : List ℕ) (a b : ℕ) → class_at text a ≡ Capital → GoesOn text a b → IsSpelled text Variable a b
variable_spelled text a b is rest = record {
  spells = word_is Capital text a b is rest;
  longest = λ k e s. word_longest Capital text a b e rest (by_this text a e k Capital is s).1;
}

-- the items of each quote
pub quoted_spelled : (text : List ℕ) (a b : ℕ) → class_at text a ≡ SingleQuote → IsQuoted text 39 a b → IsSpelled text Quoted a b
quoted_spelled text a b is x = record {
  spells = x;
  longest = λ k e s. omega (arith, closed_once text 39 a b e single_quote x (by_this text a e k SingleQuote is s).1);
}

pub string_spelled : (text : List ℕ) (a b : ℕ) → class_at text a ≡ DoubleQuote → IsQuoted text 34 a b → IsSpelled text Str a b
string_spelled text a b is x = record {
  spells = x;
  longest = λ k e s. omega (arith, closed_once text 34 a b e double_quote x (by_this text a e k DoubleQuote is s).1);
}

pub back_spelled : (text : List ℕ) (a b : ℕ) → class_at text a ≡ BackQuote → IsQuoted text 96 a b → IsSpelled text BackStr a b
back_spelled text a b is x = record {
  spells = x;
  longest = λ k e s. omega (arith, closed_once text 96 a b e back_quote x (by_this text a e k BackQuote is s).1);
}

run_longest : (text : List ℕ) (a b e : ℕ) → IsRun text a b → IsRun text a e → e ≤ b
run_longest text a b e r x = elim (cases_lt b e) [
  | inl lt ↦ let both : true ≡ false = sym (x.graphic b (omega (arith, r.some)) lt) ∙ r.longest in absurd cc
  | inr le ↦ le
]

run_by : (text : List ℕ) (a b e : ℕ) (k : Kind) (class : Class) → IsRun text a b → is_graphic class ≡ true → SpellsBy text a e k class → e ≤ b
run_by text a b e k Dot r is (inl x) = run_longest text a b e r x.1.run
run_by text a b e k Dot r is (inr x) = run_longest text a b e r x.1.run
run_by text a b e k Slash r is x = run_longest text a b e r x.1.run
run_by text a b e k Graphic r is x = run_longest text a b e r x.1.run
run_by text a b e k _ r is x = absurd cc

-- the run is what each token that begins with a graphic character is
run_bound : (text : List ℕ) (a b : ℕ) → IsRun text a b → (k : Kind) (e : ℕ) → Spells text a e k → e ≤ b
run_bound text a b r k e s = run_by text a b e k (class_at text a) r (r.graphic a (omega arith) r.some) (by_class text a e k s)

pub end_spelled : (text : List ℕ) (a b : ℕ) → IsEnd text a b → IsSpelled text End a b
end_spelled text a b x = record { spells = x; longest = run_bound text a b x.run }

pub graphic_spelled : (text : List ℕ) (a b : ℕ) → IsGraphicName text a b → IsSpelled text Name a b
graphic_spelled text a b x = record { spells = inr (inl x); longest = run_bound text a b x.run }

-- the kind of the token that is one character of the class
abbrev pub sign_kind : Class → Option Kind
sign_kind Solo = Some Name
sign_kind RoundOpen = Some OpenRound
sign_kind RoundClose = Some CloseRound
sign_kind SquareOpen = Some OpenSquare
sign_kind SquareClose = Some CloseSquare
sign_kind CurlyOpen = Some OpenCurly
sign_kind CurlyClose = Some CloseCurly
sign_kind CommaSign = Some Comma
sign_kind BarSign = Some Bar
sign_kind _ = None

sign_spells : (text : List ℕ) (a : ℕ) (k : Kind) (class : Class) → sign_kind class ≡ Some k → class_at text a ≡ class → Spells text a (a + 1) k
sign_spells text a k Solo is here = let kind : Name ≡ k = cc in subst (Spells text a (a + 1)) kind (inr (inr (record { is = here; one = refl })))
sign_spells text a k RoundOpen is here = let kind : OpenRound ≡ k = cc in subst (Spells text a (a + 1)) kind (record { is = here; one = refl })
sign_spells text a k RoundClose is here = let kind : CloseRound ≡ k = cc in subst (Spells text a (a + 1)) kind (record { is = here; one = refl })
sign_spells text a k SquareOpen is here = let kind : OpenSquare ≡ k = cc in subst (Spells text a (a + 1)) kind (record { is = here; one = refl })
sign_spells text a k SquareClose is here = let kind : CloseSquare ≡ k = cc in subst (Spells text a (a + 1)) kind (record { is = here; one = refl })
sign_spells text a k CurlyOpen is here = let kind : OpenCurly ≡ k = cc in subst (Spells text a (a + 1)) kind (record { is = here; one = refl })
sign_spells text a k CurlyClose is here = let kind : CloseCurly ≡ k = cc in subst (Spells text a (a + 1)) kind (record { is = here; one = refl })
sign_spells text a k CommaSign is here = let kind : Comma ≡ k = cc in subst (Spells text a (a + 1)) kind (record { is = here; one = refl })
sign_spells text a k BarSign is here = let kind : Bar ≡ k = cc in subst (Spells text a (a + 1)) kind (record { is = here; one = refl })
sign_spells text a k _ is here = absurd cc

sign_longest : (text : List ℕ) (a : ℕ) (k : Kind) (class : Class) → sign_kind class ≡ Some k → (j : Kind) (e : ℕ) → SpellsBy text a e j class → e ≤ a + 1
sign_longest text a k Solo is j e x = omega (arith, x.1)
sign_longest text a k RoundOpen is j e x = omega (arith, x.1)
sign_longest text a k RoundClose is j e x = omega (arith, x.1)
sign_longest text a k SquareOpen is j e x = omega (arith, x.1)
sign_longest text a k SquareClose is j e x = omega (arith, x.1)
sign_longest text a k CurlyOpen is j e x = omega (arith, x.1)
sign_longest text a k CurlyClose is j e x = omega (arith, x.1)
sign_longest text a k CommaSign is j e x = omega (arith, x.1)
sign_longest text a k BarSign is j e x = omega (arith, x.1)
sign_longest text a k _ is j e x = absurd cc

pub sign_spelled : (text : List ℕ) (a : ℕ) (k : Kind) (class : Class) → sign_kind class ≡ Some k → class_at text a ≡ class → IsSpelled text k a (a + 1)
sign_spelled text a k class is here = record {
  spells = sign_spells text a k class is here;
  longest = λ j e s. sign_longest text a k class is j e (by_this text a e j class here s);
}

pub one_spelled : (text : List ℕ) (a : ℕ) (k : Kind) (class : Class) (spelling : Spelling) → sign_kind class ≡ Some k → class ≡ class_at text a → spelling ≡ record { kind = k; end = a + 1 }
    → IsSpelled text spelling.kind a spelling.end
one_spelled text a k class spelling is here made = subst (λ (x : Spelling). IsSpelled text x.kind a x.end) (sym made) (sign_spelled text a k class is (sym here))

-- an item of a kind as a token of it
pub item_spelled : (text : List ℕ) (q a : ℕ) (kind : Kind) (found : Result Spelling TokenFault) → ((b : ℕ) → IsQuoted text q a b → IsSpelled text kind a b)
    → MatchResult found (λ s. (s.kind ≡ kind) × IsQuoted text q a s.end) (λ fault. IsWrong text a fault) → MatchResult found (λ s. IsSpelled text s.kind a s.end) (λ fault. IsWrong text a fault)
item_spelled text q a kind (Ok s) spelled (is, x) = subst (λ k. IsSpelled text k a s.end) (sym is) (spelled s.end x)
item_spelled text q a kind (Err fault) spelled x = x
