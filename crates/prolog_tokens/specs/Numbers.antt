-- Numbers (ISO/IEC 13211-1, 6.4.4 and 6.4.5).
use Rattle.std.specs.Prelude.{◌≡◌, ◌≢◌, ℕ, ◌+◌, ◌<◌, ◌≤◌, ◌⊎◌, ◌==◌, ◌||◌, List, Option, Some, None, Bool, true, length, if◌then◌else◌, slice_index}
use Rattle.prolog_tokens.specs.declared.chars.Class.TheVariants.{Inner}
use Rattle.prolog_tokens.specs.Chars.{class_at, code_at}
use Rattle.prolog_tokens.specs.Digits.{IsDigits, Writes}
use Rattle.prolog_tokens.specs.Quoted.{IsPart, twice, escape}

-- one whole character stands from a to b
pub record IsChar (text : List ℕ) (a b : ℕ) : Type 0 where
  pub some : a < b
  pub within : b ≤ length text
  pub begins : class_at text a ≢ Inner
  pub inner : (k : ℕ) → a < k → k < b → class_at text k ≡ Inner
  pub ends : class_at text b ≢ Inner

-- `0'` stands at a place
pub record IsCodeMark (text : List ℕ) (a : ℕ) : Type 0 where
  pub zero_digit : slice_index text a ≡ 48
  pub quote : slice_index text (a + 1) ≡ 39

-- what may stand behind `0'`: the quote written twice, an escape of a character, any character but those that say more
pub data Code : Type 0 where
  doubled : Code
  escaped : Code
  itself : Code

-- a character that stands for itself behind `0'`
pub record IsItself (text : List ℕ) (a c b : ℕ) : Type 0 where
  pub char : IsChar text a b
  pub is : c ≡ code_at text a
  pub no_quote : slice_index text a ≢ 39
  pub no_backslash : slice_index text a ≢ 92
  pub no_newline : slice_index text a ≢ 10

-- the character c, written behind `0'` from a up to b
abbrev pub IsCode : List ℕ → ℕ → ℕ → ℕ → Code → Type 0
IsCode text a c b doubled = (c ≡ 39) × IsPart text 39 a twice b
IsCode text a c b escaped = IsPart text 39 a (escape (Some c)) b
IsCode text a c b itself = IsItself text a c b

-- a backslash directly behind `0'` at which no escape of a character stands
pub record IsBadCode (text : List ℕ) (a p : ℕ) : Type 0 where
  pub mark : IsCodeMark text a
  pub place : p ≡ a + 2
  pub backslash : slice_index text p ≡ 92
  pub none : (c b : ℕ) → IsPart text 39 p (escape (Some c)) b → ⊥

-- the ways to write an integer
pub data Form : Type 0 where
  plain_digits : Form
  based : ℕ → Form
  code : Code → Form

-- the base that a letter behind a 0 tells
abbrev pub base_of : ℕ → Option ℕ
base_of b = if b == 98 then Some 2 else (if b == 111 then Some 8 else (if b == 120 then Some 16 else None))

-- digits alone; a 0 before `'` and a backslash is none, since a character code should stand there
pub record IsDecimal (text : List ℕ) (a n b : ℕ) : Type 0 where
  pub writes : Writes 10 text a b n
  pub no_code : b ≡ a + 1 → IsCodeMark text a → slice_index text (a + 2) ≢ 92

-- a 0, the letter of the base, and digits of it
pub record IsBased (base : ℕ) (text : List ℕ) (a n b : ℕ) : Type 0 where
  pub zero_digit : slice_index text a ≡ 48
  pub letter : base_of (slice_index text (a + 1)) ≡ Some base
  pub writes : Writes base text (a + 2) b n

-- and of some base and integer
abbrev pub EndsBased : List ℕ → ℕ → ℕ → Type 0
EndsBased text a b = (base : ℕ) × (n : ℕ) × IsBased base text a n b

-- the bytes from a to b write the integer n in this way
abbrev pub IsIntegerBy : List ℕ → ℕ → ℕ → ℕ → Form → Type 0
IsIntegerBy text a n b plain_digits = IsDecimal text a n b
IsIntegerBy text a n b (based base) = IsBased base text a n b
IsIntegerBy text a n b (code how) = IsCodeMark text a × IsCode text (a + 2) n b how

-- and in some way
pub record IsInteger (text : List ℕ) (a n b : ℕ) : Type 0 where
  pub form : Form
  pub by : IsIntegerBy text a n b form

abbrev pub is_exponent_mark : ℕ → Bool
is_exponent_mark b = (b == 101) || (b == 69)

abbrev pub is_sign : ℕ → Bool
is_sign b = (b == 43) || (b == 45)

-- behind the sign that stands at a place, if one does
abbrev pub after_sign : List ℕ → ℕ → ℕ
after_sign text a = if is_sign (slice_index text a) then a + 1 else a

-- the exponent of a float, or none: from a to b
abbrev pub IsExponent : List ℕ → ℕ → ℕ → Type 0
IsExponent text a b = (a ≡ b) ⊎ ((is_exponent_mark (slice_index text a) ≡ true) × IsDigits 10 text (after_sign text (a + 1)) b)

-- a dot, digits, and an exponent or none: what follows the digits before it
pub record IsFraction (text : List ℕ) (a b : ℕ) : Type 0 where
  pub dot : slice_index text a ≡ 46
  pub after : ℕ
  pub part : IsDigits 10 text (a + 1) after
  pub exponent : IsExponent text after b

pub record IsFloat (text : List ℕ) (a b : ℕ) : Type 0 where
  pub dot : ℕ
  pub whole : IsDigits 10 text a dot
  pub fraction : IsFraction text dot b
