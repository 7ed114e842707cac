-- A text has at most one fault, and then no cut.
use Rattle.std.proofs.Common.{◌≡◌, ℕ, ◌+◌, ◌<◌, List, length, Some, None, get_or, ap, sym, ◌∙◌, subst, inl, inr, arith}
use Rattle.std.proofs.lemmas.Bool.{cases_lt}
use Rattle.prolog_tokens.specs.declared.chars.Class.{Class}
use Rattle.prolog_tokens.specs.declared.chars.Class.TheVariants.{Digit, SingleQuote, DoubleQuote, BackQuote, Slash, Further, OrderMark, Other}
use Rattle.prolog_tokens.specs.declared.token.Kind.{Kind}
use Rattle.prolog_tokens.specs.declared.token.Token.{Token}
use Rattle.prolog_tokens.specs.declared.token.TokenFault.{TokenFault}
use Rattle.prolog_tokens.specs.declared.token.TokenFault.TheVariants.{BadChar, OpenQuote, OpenComment, BadEscape, NoMemory}
use Rattle.prolog_tokens.specs.Chars.{class_at}
use Rattle.prolog_tokens.specs.Quoted.{IsQuote, IsPart, escape, IsQuoted, IsOpenQuote, IsBadEscape}
use Rattle.prolog_tokens.specs.Numbers.{Code, doubled, escaped, itself, IsCode, IsBadCode, Form, plain_digits, based, code, base_of, IsIntegerBy}
use Rattle.prolog_tokens.specs.Layout.{Sort, IsPiece, NoPiece}
use Rattle.prolog_tokens.specs.Layout.{white, line, bracketed, mark, hash_bang}
use Rattle.prolog_tokens.specs.Spelling.{Spells}
use Rattle.prolog_tokens.specs.Faults.{IsBadChar, IsOpenComment, IsWrong}
use Rattle.prolog_tokens.specs.Cut.{IsCut, HasFault}
use Rattle.prolog_tokens.proofs.Classes.{byte_class, here}
use Rattle.prolog_tokens.proofs.Parts.{quote_sign}
use Rattle.prolog_tokens.proofs.Families.{SpellsBy, by_this}
use Rattle.prolog_tokens.proofs.Once.{among_digits, byte_clash, closed_not_open, closed_not_bad, bad_once, bad_not_open}
use Rattle.prolog_tokens.proofs.Pieces.{class_sort, sort_is, no_piece}
use Rattle.prolog_tokens.proofs.OneToken.{float_second}
use Rattle.prolog_tokens.proofs.Between.{NoStart, at_length, SameWay, ways_once}

-- the sorts of faults by the classes where they may stand
data Cause : Type 0 where
  by_char : Cause
  by_quote : Cause
  by_comment : Cause
  by_code : Cause
  by_none : Cause

abbrev class_cause : Class → Cause
class_cause Other = by_char
class_cause Further = by_char
class_cause OrderMark = by_char
class_cause SingleQuote = by_quote
class_cause DoubleQuote = by_quote
class_cause BackQuote = by_quote
class_cause Slash = by_comment
class_cause Digit = by_code
class_cause _ = by_none

quote_class : (text : List ℕ) (q s : ℕ) → IsQuote q → get_or text s 0 ≡ q → class_cause (class_at text s) ≡ by_quote
quote_class text q s (inl is) opens = ap class_cause (byte_class text s 39 (opens ∙ is) (omega arith))
quote_class text q s (inr (inl is)) opens = ap class_cause (byte_class text s 34 (opens ∙ is) (omega arith))
quote_class text q s (inr (inr is)) opens = ap class_cause (byte_class text s 96 (opens ∙ is) (omega arith))

quote_sort : (text : List ℕ) (q s : ℕ) → IsQuote q → get_or text s 0 ≡ q → NoPiece text s
quote_sort text q s (inl is) opens = no_piece text s (ap class_sort (byte_class text s 39 (opens ∙ is) (omega arith)))
quote_sort text q s (inr (inl is)) opens = no_piece text s (ap class_sort (byte_class text s 34 (opens ∙ is) (omega arith)))
quote_sort text q s (inr (inr is)) opens = no_piece text s (ap class_sort (byte_class text s 96 (opens ∙ is) (omega arith)))

-- a token that begins with a quote is an item that is closed
quote_token : (text : List ℕ) (q s b : ℕ) (k : Kind) → IsQuote q → get_or text s 0 ≡ q → Spells text s b k → IsQuoted text q s b
quote_token text q s b k (inl is) opens t =
    let by : SpellsBy text s b k SingleQuote = by_this text s b k SingleQuote (byte_class text s 39 (opens ∙ is) (omega arith)) t in
    subst (λ n. IsQuoted text n s b) (sym is) by.1
quote_token text q s b k (inr (inl is)) opens t =
    let by : SpellsBy text s b k DoubleQuote = by_this text s b k DoubleQuote (byte_class text s 34 (opens ∙ is) (omega arith)) t in
    subst (λ n. IsQuoted text n s b) (sym is) by.1
quote_token text q s b k (inr (inr is)) opens t =
    let by : SpellsBy text s b k BackQuote = by_this text s b k BackQuote (byte_class text s 96 (opens ∙ is) (omega arith)) t in
    subst (λ n. IsQuoted text n s b) (sym is) by.1

-- nothing begins at a quote that isn't closed
pub open_no_start : (text : List ℕ) (q s : ℕ) → IsQuote q → IsOpenQuote text q s → NoStart text s
open_no_start text q s quote x = record {
  no_token = λ k b t. closed_not_open text q s b quote (quote_token text q s b k quote x.opens t) x;
  no_piece = quote_sort text q s quote x.opens;
}

-- nor where an item with a bad escape does
pub bad_no_start : (text : List ℕ) (q s p : ℕ) → IsQuote q → IsBadEscape text q s p → NoStart text s
bad_no_start text q s p quote x = record {
  no_token = λ k b t. closed_not_bad text q s b p quote (quote_token text q s b k quote x.opens t) x;
  no_piece = quote_sort text q s quote x.opens;
}

bad_code_none : (text : List ℕ) (s p c b : ℕ) (how : Code) → IsBadCode text s p → IsCode text (s + 2) c b how → ⊥
bad_code_none text s p c b doubled x d = byte_clash text (s + 2) 39 92 d.1.by.0 (ap (λ n. get_or text n 0) (sym x.place) ∙ x.backslash) (λ e. omega (arith, e))
bad_code_none text s p c b escaped x d = subst (λ n. (c b : ℕ) → IsPart text 39 n (escape (Some c)) b → ⊥) x.place x.none c b d
bad_code_none text s p c b itself x d = d.no_backslash (ap (λ n. get_or text n 0) (sym x.place) ∙ x.backslash)

bad_code_integer : (text : List ℕ) (s p n b : ℕ) (form : Form) → IsBadCode text s p → IsIntegerBy text s n b form → ⊥
bad_code_integer text s p n b plain_digits x d = elim (cases_lt (s + 1) b) [
  | inl lt ↦ among_digits 10 text s b (s + 1) 39 d.writes.digits (omega arith) lt x.mark.quote (omega arith)
  | inr le ↦ d.no_code (omega (arith, d.writes.digits.some)) x.mark (ap (λ n. get_or text n 0) (sym x.place) ∙ x.backslash)
]
bad_code_integer text s p n b (based base) x d = let both : Some base ≡ None = sym d.letter ∙ ap base_of x.mark.quote in cc
bad_code_integer text s p n b (code how) x d = bad_code_none text s p n b how x d.1

bad_code_token : (text : List ℕ) (s p b : ℕ) (k : Kind) → IsBadCode text s p → SpellsBy text s b k Digit → ⊥
bad_code_token text s p b k x (inl d) = bad_code_integer text s p d.1.0 b d.1.1.form x d.1.1.by
bad_code_token text s p b k x (inr d) = float_second text s b 39 d.1 x.mark.quote (omega arith) (λ e. omega (arith, e))

-- nor where `0'` and a wrong escape do
pub bad_code_no_start : (text : List ℕ) (s p : ℕ) → IsBadCode text s p → NoStart text s
bad_code_no_start text s p x = record {
  no_token = λ k b t. bad_code_token text s p b k x (by_this text s b k Digit (byte_class text s 48 x.mark.zero_digit (omega arith)) t);
  no_piece = no_piece text s (ap class_sort (byte_class text s 48 x.mark.zero_digit (omega arith)));
}

comment_piece : (text : List ℕ) (s b : ℕ) (sort : Sort) → IsOpenComment text s → IsPiece text s b sort → Some sort ≡ Some bracketed → ⊥
comment_piece text s b bracketed x p is = x.unclosed p.close p.after p.closes
comment_piece text s b white x p is = let none : ⊥ = cc in none
comment_piece text s b line x p is = let none : ⊥ = cc in none
comment_piece text s b mark x p is = let none : ⊥ = cc in none
comment_piece text s b hash_bang x p is = let none : ⊥ = cc in none

-- nor at a comment that isn't closed
pub comment_no_start : (text : List ℕ) (s : ℕ) → IsOpenComment text s → NoStart text s
comment_no_start text s x = record {
  no_token = λ k b t.
      let by : SpellsBy text s b k Slash = by_this text s b k Slash (byte_class text s 47 x.opens.slash (omega arith)) t in
      by.1.no_comment x.opens;
  no_piece = λ sort b p. comment_piece text s b sort x p (sym (sort_is text s b sort p) ∙ ap class_sort (byte_class text s 47 x.opens.slash (omega arith)));
}

mark_piece : (text : List ℕ) (s b : ℕ) (sort : Sort) → 0 < s → IsPiece text s b sort → Some sort ≡ Some mark → ⊥
mark_piece text s b mark some p is = omega (arith, some, p.0)
mark_piece text s b white some p is = let none : ⊥ = cc in none
mark_piece text s b line some p is = let none : ⊥ = cc in none
mark_piece text s b bracketed some p is = let none : ⊥ = cc in none
mark_piece text s b hash_bang some p is = let none : ⊥ = cc in none

-- nor at a bad character
pub char_no_start : (text : List ℕ) (s : ℕ) → IsBadChar text s → NoStart text s
char_no_start text s x = elim x.begins_none [
  | inl is ↦ record { no_token = λ k b t. by_this text s b k Other is t; no_piece = no_piece text s (ap class_sort is) }
  | inr (inl is) ↦ record { no_token = λ k b t. by_this text s b k Further is t; no_piece = no_piece text s (ap class_sort is) }
  | inr (inr (is, some)) ↦ record {
    no_token = λ k b t. by_this text s b k OrderMark is t;
    no_piece = λ sort b p. mark_piece text s b sort some p (sym (sort_is text s b sort p) ∙ ap class_sort is);
  }
]

char_class : (text : List ℕ) (s : ℕ) → IsBadChar text s → class_cause (class_at text s) ≡ by_char
char_class text s x = elim x.begins_none [
  | inl is ↦ ap class_cause is
  | inr (inl is) ↦ ap class_cause is
  | inr (inr (is, some)) ↦ ap class_cause is
]

-- where something is wrong nothing begins
pub wrong_no_start : (text : List ℕ) (s : ℕ) (fault : TokenFault) → IsWrong text s fault → NoStart text s
wrong_no_start text s (BadChar at) (is, x) = char_no_start text s x
wrong_no_start text s (OpenQuote at) (is, (q, quote, x)) = open_no_start text q s quote x
wrong_no_start text s (OpenComment at) (is, x) = comment_no_start text s x
wrong_no_start text s (BadEscape at) (inl (q, quote, x)) = bad_no_start text q s at quote x
wrong_no_start text s (BadEscape at) (inr x) = bad_code_no_start text s at x
wrong_no_start text s NoMemory x = absurd x

comment_class : (text : List ℕ) (s : ℕ) → IsOpenComment text s → class_cause (class_at text s) ≡ by_comment
comment_class text s x = ap class_cause (byte_class text s 47 x.opens.slash (omega arith))

code_class : (text : List ℕ) (s p : ℕ) → IsBadCode text s p → class_cause (class_at text s) ≡ by_code
code_class text s p x = ap class_cause (byte_class text s 48 x.mark.zero_digit (omega arith))

-- an item with a bad escape is not open, whatever its quote is
escape_or_open : (text : List ℕ) (s p q r : ℕ) → IsQuote q → IsBadEscape text q s p → IsOpenQuote text r s → ⊥
escape_or_open text s p q r quote x y = bad_not_open text q s p quote x (subst (λ n. IsOpenQuote text n s) (sym y.opens ∙ x.opens) y)

same_escape : (text : List ℕ) (s p o q r : ℕ) → IsQuote q → IsBadEscape text q s p → IsBadEscape text r s o → p ≡ o
same_escape text s p o q r quote x y = bad_once text q s p o quote x (subst (λ n. IsBadEscape text n s o) (sym y.opens ∙ x.opens) y)

-- and one thing is wrong there
pub wrong_once : (text : List ℕ) (s : ℕ) (f g : TokenFault) → IsWrong text s f → IsWrong text s g → f ≡ g
wrong_once text s (BadChar a) (BadChar b) x y = ap (λ n. BadChar n) (x.0 ∙ sym y.0)
wrong_once text s (BadChar a) (OpenQuote b) x (_, (q, quote, y)) = let both : by_char ≡ by_quote = sym (char_class text s x.1) ∙ quote_class text q s quote y.opens in cc
wrong_once text s (BadChar a) (OpenComment b) x y = let both : by_char ≡ by_comment = sym (char_class text s x.1) ∙ comment_class text s y.1 in cc
wrong_once text s (BadChar a) (BadEscape b) x (inl (q, quote, y)) = let both : by_char ≡ by_quote = sym (char_class text s x.1) ∙ quote_class text q s quote y.opens in cc
wrong_once text s (BadChar a) (BadEscape b) x (inr y) = let both : by_char ≡ by_code = sym (char_class text s x.1) ∙ code_class text s b y in cc
wrong_once text s (OpenQuote a) (BadChar b) (_, (q, quote, x)) y = let both : by_quote ≡ by_char = sym (quote_class text q s quote x.opens) ∙ char_class text s y.1 in cc
wrong_once text s (OpenQuote a) (OpenQuote b) x y = ap (λ n. OpenQuote n) (x.0 ∙ sym y.0)
wrong_once text s (OpenQuote a) (OpenComment b) (_, (q, quote, x)) y = let both : by_quote ≡ by_comment = sym (quote_class text q s quote x.opens) ∙ comment_class text s y.1 in cc
wrong_once text s (OpenQuote a) (BadEscape b) (_, (q, quote, x)) (inl (r, quote', y)) = absurd (escape_or_open text s b r q quote' y x)
wrong_once text s (OpenQuote a) (BadEscape b) (_, (q, quote, x)) (inr y) = let both : by_quote ≡ by_code = sym (quote_class text q s quote x.opens) ∙ code_class text s b y in cc
wrong_once text s (OpenComment a) (BadChar b) x y = let both : by_comment ≡ by_char = sym (comment_class text s x.1) ∙ char_class text s y.1 in cc
wrong_once text s (OpenComment a) (OpenQuote b) x (_, (q, quote, y)) = let both : by_comment ≡ by_quote = sym (comment_class text s x.1) ∙ quote_class text q s quote y.opens in cc
wrong_once text s (OpenComment a) (OpenComment b) x y = ap (λ n. OpenComment n) (x.0 ∙ sym y.0)
wrong_once text s (OpenComment a) (BadEscape b) x (inl (q, quote, y)) = let both : by_comment ≡ by_quote = sym (comment_class text s x.1) ∙ quote_class text q s quote y.opens in cc
wrong_once text s (OpenComment a) (BadEscape b) x (inr y) = let both : by_comment ≡ by_code = sym (comment_class text s x.1) ∙ code_class text s b y in cc
wrong_once text s (BadEscape a) (BadChar b) (inl (q, quote, x)) y = let both : by_quote ≡ by_char = sym (quote_class text q s quote x.opens) ∙ char_class text s y.1 in cc
wrong_once text s (BadEscape a) (BadChar b) (inr x) y = let both : by_code ≡ by_char = sym (code_class text s a x) ∙ char_class text s y.1 in cc
wrong_once text s (BadEscape a) (OpenQuote b) (inl (q, quote, x)) (_, (r, quote', y)) = absurd (escape_or_open text s a q r quote x y)
wrong_once text s (BadEscape a) (OpenQuote b) (inr x) (_, (q, quote, y)) = let both : by_code ≡ by_quote = sym (code_class text s a x) ∙ quote_class text q s quote y.opens in cc
wrong_once text s (BadEscape a) (OpenComment b) (inl (q, quote, x)) y = let both : by_quote ≡ by_comment = sym (quote_class text q s quote x.opens) ∙ comment_class text s y.1 in cc
wrong_once text s (BadEscape a) (OpenComment b) (inr x) y = let both : by_code ≡ by_comment = sym (code_class text s a x) ∙ comment_class text s y.1 in cc
wrong_once text s (BadEscape a) (BadEscape b) (inl (q, quote, x)) (inl (r, quote', y)) = ap (λ n. BadEscape n) (same_escape text s a b q r quote x y)
wrong_once text s (BadEscape a) (BadEscape b) (inl (q, quote, x)) (inr y) = let both : by_quote ≡ by_code = sym (quote_class text q s quote x.opens) ∙ code_class text s b y in cc
wrong_once text s (BadEscape a) (BadEscape b) (inr x) (inl (q, quote, y)) = let both : by_code ≡ by_quote = sym (code_class text s a x) ∙ quote_class text q s quote y.opens in cc
wrong_once text s (BadEscape a) (BadEscape b) (inr x) (inr y) = ap (λ n. BadEscape n) (x.place ∙ sym y.place)
wrong_once text s NoMemory g x y = absurd x
wrong_once text s (BadChar a) NoMemory x y = absurd y
wrong_once text s (OpenQuote a) NoMemory x y = absurd y
wrong_once text s (OpenComment a) NoMemory x y = absurd y
wrong_once text s (BadEscape a) NoMemory x y = absurd y

-- a text has at most one fault
pub one_fault : (text : List ℕ) (f g : TokenFault) → HasFault text f → HasFault text g → f ≡ g
one_fault text f g x y =
    let same : SameWay x.tokens y.tokens x.next.place y.next.place =
    ways_once text x.next.place y.next.place (wrong_no_start text x.next.place f x.next.wrong) (wrong_no_start text y.next.place g y.next.wrong) 0 x.last y.last x.tokens y.tokens x.stand x.next.layout y.stand y.next.layout in
    wrong_once text x.next.place f g x.next.wrong (subst (λ n. IsWrong text n g) (sym same.place) y.next.wrong)

-- the place of a fault is within the text
pub wrong_within : (text : List ℕ) (s : ℕ) (fault : TokenFault) → IsWrong text s fault → s < length text
wrong_within text s (BadChar at) (is, x) = x.within
wrong_within text s (OpenQuote at) (is, (q, quote, x)) = x.within
wrong_within text s (OpenComment at) (is, x) = here text s 47 x.opens.slash (omega arith)
wrong_within text s (BadEscape at) (inl (q, quote, x)) = here text s q x.opens (quote_sign q quote).some
wrong_within text s (BadEscape at) (inr x) = here text s 48 x.mark.zero_digit (omega arith)
wrong_within text s NoMemory x = absurd x

-- a text with a fault has no cut
pub fault_no_cut : (text : List ℕ) (fault : TokenFault) (ts : List Token) → HasFault text fault → IsCut text ts → ⊥
fault_no_cut text fault ts x cut =
    let same : SameWay x.tokens ts x.next.place (length text) =
    ways_once text x.next.place (length text) (wrong_no_start text x.next.place fault x.next.wrong) (at_length text) 0 x.last cut.last x.tokens ts x.stand x.next.layout cut.stand cut.layout in
    omega (arith, same.place, wrong_within text x.next.place fault x.next.wrong)
