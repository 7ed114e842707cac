-- What the class at a place says of the place.
use Rattle.std.proofs.Common.{◌≡◌, ◌≢◌, ℕ, ◌+◌, ◌<◌, ◌≤◌, List, length, Bool, true, false, ◌==◌, ◌&&◌, ◌||◌, nat_le, nat_lt, cond, codes, get_or, ap, sym, ◌∙◌, subst, refl, inl, inr, arith}
use Rattle.std.proofs.lemmas.Bool.{cases_lt}
use Rattle.std.proofs.lemmas.Bool.Decides.{nat_tests}
use Rattle.std.proofs.lemmas.List.{get_or_past}
use Rattle.std.specs.Str.{IsUtf8, IsCharBoundary}
use Rattle.std.proofs.lemmas.Str.{IsCharBoundary-start, lead_after_ascii}
use Rattle.std.specs.List.{list_any}
use Rattle.unicode.specs.Binary.{is_xid_start, is_xid_continue}
use Rattle.std.specs.Char.{is_whitespace}
use Rattle.ucd_category.specs.GeneralCategory.{general_category}
use Rattle.ucd_category.specs.declared.GeneralCategory.{GeneralCategory}
use Rattle.ucd_category.specs.declared.GeneralCategory.TheVariants.{UppercaseLetter, TitlecaseLetter}
use Rattle.prolog_tokens.specs.declared.chars.Class.{Class}
use Rattle.prolog_tokens.specs.declared.chars.Class.TheVariants.{White, Small, Capital, Digit, SingleQuote, DoubleQuote, BackQuote, RoundOpen, RoundClose, SquareOpen, SquareClose, CurlyOpen, CurlyClose, CommaSign, BarSign, Percent, Dot, Slash, Solo, Graphic, Further, OrderMark, Inner, Other}
use Rattle.prolog_tokens.specs.Chars.{ascii_class, letter_class, past_ascii, code_at, class_at, is_graphic}

-- the class of a byte is that of its place, where the byte is ASCII
pub byte_class : (text : List ℕ) (a b : ℕ) → get_or text a 0 ≡ b → b < 128 → class_at text a ≡ ascii_class b
byte_class text a b is small =
    let here : nat_lt (get_or text a 0) 128 ≡ true = grind (arith, nat_tests) in
    ap (λ t. cond t (ascii_class (get_or text a 0)) (cond (nat_lt (get_or text a 0) 192) Inner (past_ascii (code_at text a)))) here ∙ ap ascii_class is

-- and past ASCII that of the character
pub far_class : (text : List ℕ) (a c : ℕ) → 192 ≤ get_or text a 0 → code_at text a ≡ c → class_at text a ≡ past_ascii c
far_class text a c far is =
    let first : nat_lt (get_or text a 0) 128 ≡ false = grind (arith, nat_tests) in
    let second : nat_lt (get_or text a 0) 192 ≡ false = grind (arith, nat_tests) in
    ap (λ t. cond t (ascii_class (get_or text a 0)) (cond (nat_lt (get_or text a 0) 192) Inner (past_ascii (code_at text a)))) first
    ∙ ap (λ t. cond t Inner (past_ascii (code_at text a))) second
    ∙ ap past_ascii is

-- a byte within a character
pub inner_class : (text : List ℕ) (a : ℕ) → 128 ≤ get_or text a 0 → get_or text a 0 < 192 → class_at text a ≡ Inner
inner_class text a from below =
    let first : nat_lt (get_or text a 0) 128 ≡ false = grind (arith, nat_tests) in
    let second : nat_lt (get_or text a 0) 192 ≡ true = grind (arith, nat_tests) in
    ap (λ t. cond t (ascii_class (get_or text a 0)) (cond (nat_lt (get_or text a 0) 192) Inner (past_ascii (code_at text a)))) first
    ∙ ap (λ t. cond t Inner (past_ascii (code_at text a))) second

-- past the end of the text there is no character of a class
pub class_past : (text : List ℕ) (a : ℕ) → length text ≤ a → class_at text a ≡ Other
class_past text a past = byte_class text a 0 (get_or_past text a 0 past) (omega arith)

-- a character of a class but Other stands within the text
pub class_here : (text : List ℕ) (a : ℕ) → class_at text a ≢ Other → a < length text
class_here text a ne = elim (cases_lt a (length text)) [
  | inl lt ↦ lt
  | inr le ↦ absurd (ne (class_past text a le))
]

-- so does a byte that isn't 0
pub here : (text : List ℕ) (a b : ℕ) → get_or text a 0 ≡ b → 0 < b → a < length text
here text a b is some = elim (cases_lt a (length text)) [
  | inl lt ↦ lt
  | inr le ↦ absurd (omega (arith, get_or_past text a 0 le))
]

-- a class of the ASCII characters alone
abbrev pub ascii_only : Class → Bool
ascii_only White = false
ascii_only Small = false
ascii_only Capital = false
ascii_only Further = false
ascii_only OrderMark = false
ascii_only Inner = false
ascii_only Other = false
ascii_only _ = true

abbrev is_inner : Class → Bool
is_inner Inner = true
is_inner _ = false

-- the test has this answer at the class
record HasAnswer (f : Class → Bool) (answer : Bool) (class : Class) : Type 0 where
  is : f class ≡ answer

-- so at a class that is chosen, where it has it at both
choice : (f : Class → Bool) (answer t : Bool) (x y : Class) → HasAnswer f answer x → HasAnswer f answer y → HasAnswer f answer (cond t x y)
choice f answer true x y p q = p
choice f answer false x y p q = q

letter : (f : Class → Bool) (answer : Bool) (g : GeneralCategory) → HasAnswer f answer Capital → HasAnswer f answer Small → HasAnswer f answer (letter_class g)
letter f answer UppercaseLetter p q = p
letter f answer TitlecaseLetter p q = p
letter f answer _ p q = q

-- a test that has one answer at each class past ASCII
past_ascii_is : (f : Class → Bool) (answer : Bool) (c : ℕ) → f White ≡ answer → f OrderMark ≡ answer → f Capital ≡ answer → f Small ≡ answer → f Further ≡ answer → f Other ≡ answer
    → f (past_ascii c) ≡ answer
past_ascii_is f answer c white mark capital small further rest =
    let all : HasAnswer f answer (past_ascii c) =
    choice f answer (is_whitespace c) White _ (record { is = white }) (
    choice f answer (c == 0xFEFF) OrderMark _ (record { is = mark }) (
    choice f answer (is_xid_start c) _ _ (letter f answer (general_category c) (record { is = capital }) (record { is = small })) (
    choice f answer (is_xid_continue c) Further Other (record { is = further }) (record { is = rest })))) in
    all.is

ascii_not_inner : (b : ℕ) → is_inner (ascii_class b) ≡ false
ascii_not_inner b =
    let all : HasAnswer is_inner false (ascii_class b) =
    choice is_inner false ((nat_le 9 b && nat_le b 13) || (b == 32)) White _ (record { is = refl }) (
    choice is_inner false (nat_le 97 b && nat_le b 122) Small _ (record { is = refl }) (
    choice is_inner false ((nat_le 65 b && nat_le b 90) || (b == 95)) Capital _ (record { is = refl }) (
    choice is_inner false (nat_le 48 b && nat_le b 57) Digit _ (record { is = refl }) (
    choice is_inner false (b == 39) SingleQuote _ (record { is = refl }) (
    choice is_inner false (b == 34) DoubleQuote _ (record { is = refl }) (
    choice is_inner false (b == 96) BackQuote _ (record { is = refl }) (
    choice is_inner false (b == 40) RoundOpen _ (record { is = refl }) (
    choice is_inner false (b == 41) RoundClose _ (record { is = refl }) (
    choice is_inner false (b == 91) SquareOpen _ (record { is = refl }) (
    choice is_inner false (b == 93) SquareClose _ (record { is = refl }) (
    choice is_inner false (b == 123) CurlyOpen _ (record { is = refl }) (
    choice is_inner false (b == 125) CurlyClose _ (record { is = refl }) (
    choice is_inner false (b == 44) CommaSign _ (record { is = refl }) (
    choice is_inner false (b == 124) BarSign _ (record { is = refl }) (
    choice is_inner false (b == 37) Percent _ (record { is = refl }) (
    choice is_inner false (b == 46) Dot _ (record { is = refl }) (
    choice is_inner false (b == 47) Slash _ (record { is = refl }) (
    choice is_inner false ((b == 33) || (b == 59)) Solo _ (record { is = refl }) (
    choice is_inner false (list_any (λ c. c == b) (codes "#$&*+-:<=>?@^~\\")) Graphic Other (record { is = refl }) (record { is = refl })))))))))))))))))))) in
    all.is

-- a byte within a character is neither ASCII nor the first of one
pub record IsInnerByte (text : List ℕ) (a : ℕ) : Type 0 where
  pub from : 128 ≤ get_or text a 0
  pub below : get_or text a 0 < 192

pub inner_byte : (text : List ℕ) (a : ℕ) → class_at text a ≡ Inner → IsInnerByte text a
inner_byte text a is = elim (cases_lt (get_or text a 0) 128) [
  | inl lt ↦
      let both : true ≡ false = sym (ap is_inner (sym (byte_class text a (get_or text a 0) refl lt) ∙ is)) ∙ ascii_not_inner (get_or text a 0) in
      cc
  | inr from ↦ elim (cases_lt (get_or text a 0) 192) [
    | inl below ↦ record { from = from; below = below }
    | inr le ↦
        let both : true ≡ false = sym (ap is_inner (sym (far_class text a (code_at text a) le refl) ∙ is)) ∙ past_ascii_is is_inner false (code_at text a) refl refl refl refl refl refl in
        cc
  ]
]

-- past the end of the text no byte stands within a character
pub past_not_inner : (text : List ℕ) (a : ℕ) → length text ≤ a → class_at text a ≢ Inner
past_not_inner text a past = λ is. let both : Other ≡ Inner = sym (class_past text a past) ∙ is in cc

pub ascii_begins : (text : List ℕ) (a : ℕ) → get_or text a 0 < 128 → class_at text a ≢ Inner
ascii_begins text a small = λ is. omega (arith, (inner_byte text a is).from)

-- a class of the ASCII characters alone stands at an ASCII byte
pub ascii_byte : (text : List ℕ) (a : ℕ) → ascii_only (class_at text a) ≡ true → get_or text a 0 < 128
ascii_byte text a is = elim (cases_lt (get_or text a 0) 128) [
  | inl lt ↦ lt
  | inr from ↦ elim (cases_lt (get_or text a 0) 192) [
    | inl below ↦ let both : true ≡ false = sym is ∙ ap ascii_only (inner_class text a from below) in cc
    | inr le ↦
        let both : true ≡ false = sym is ∙ ap ascii_only (far_class text a (code_at text a) le refl) ∙ past_ascii_is ascii_only false (code_at text a) refl refl refl refl refl refl in
        cc
  ]
]

graphic_only : (class : Class) → is_graphic class ≡ true → ascii_only class ≡ true
graphic_only Dot is = refl
graphic_only Slash is = refl
graphic_only Graphic is = refl
graphic_only _ is = let both : true ≡ false = sym is in cc

-- graphic characters are ASCII
pub graphic_byte : (text : List ℕ) (a : ℕ) → is_graphic (class_at text a) ≡ true → get_or text a 0 < 128
graphic_byte text a is = ascii_byte text a (graphic_only (class_at text a) is)

-- in a text a character begins at its beginning,
pub begins_first : (text : List ℕ) → IsUtf8 text → class_at text 0 ≢ Inner
begins_first text utf8 = λ is.
    let byte : IsInnerByte text 0 = inner_byte text 0 is in
    let within : 0 < length text = here text 0 (get_or text 0 0) refl (omega (arith, byte.from)) in
    omega (arith, byte.from, byte.below, (IsCharBoundary-start text utf8).1 within byte.from)

-- and behind each ASCII byte
pub begins_behind : (text : List ℕ) (a : ℕ) → IsUtf8 text → get_or text a 0 < 128 → class_at text (a + 1) ≢ Inner
begins_behind text a utf8 small = λ is.
    let byte : IsInnerByte text (a + 1) = inner_byte text (a + 1) is in
    let within : a + 1 < length text = here text (a + 1) (get_or text (a + 1) 0) refl (omega (arith, byte.from)) in
    omega (arith, byte.from, byte.below, lead_after_ascii text a utf8 small within byte.from)

-- where a character begins or the text ends, it may be cut
pub may_cut : (text : List ℕ) (a : ℕ) → a ≤ length text → class_at text a ≢ Inner → IsCharBoundary text a
may_cut text a within begins = (
  within,
  λ lt from. elim (cases_lt (get_or text a 0) 192) [
    | inl below ↦ absurd (begins (inner_class text a from below))
    | inr le ↦ le
  ],
)

-- what holds of each place from one up to another, and of that one
pub places_more : (P : ℕ → Type 0) (a b : ℕ) → ((k : ℕ) → a ≤ k → k < b → P k) → P b → (k : ℕ) → a ≤ k → k < b + 1 → P k
places_more P a b each here k from below = elim (cases_lt k b) [
  | inl lt ↦ each k from lt
  | inr le ↦ let is : b ≡ k = omega arith in subst P is here
]
