-- What is read of an integer is its value.
use Rattle.std.proofs.Common.{◌≡◌, ◌≢◌, ℕ, ◌+◌, ◌-◌, ◌<◌, ◌≤◌, List, Option, Some, None, get_or, ap, sym, ◌∙◌, subst, refl, inl, inr, arith}
use Rattle.prolog_tokens.specs.declared.token.Kind.TheVariants.{Integer}
use Rattle.prolog_tokens.specs.declared.token.Token.{Token}
use Rattle.prolog_tokens.specs.Chars.{code_at}
use Rattle.prolog_tokens.specs.Digits.{number_at, Writes}
use Rattle.prolog_tokens.specs.Escapes.{IsEscape}
use Rattle.prolog_tokens.specs.Numbers.{Code, doubled, escaped, itself, IsCode, Form, plain_digits, based, code, IsIntegerBy, IsInteger}
use Rattle.prolog_tokens.specs.Spelling.{Spells, IsSpelled}
use Rattle.prolog_tokens.specs.Values.{greatest_value, IsIntegerValue, IsRead}
use Rattle.prolog_tokens.proofs.Once.{byte_clash}
use Rattle.prolog_tokens.proofs.OneToken.{code_some}

-- what is read of the digits is read of what they write
pub writes_read : (base : ℕ) (text : List ℕ) (a b n : ℕ) (r : Option ℕ) → IsRead (number_at base text a (b - a)) r → Writes base text a b n → IsRead n r
writes_read base text a b n r read w =
    let count : w.count ≡ b - a = omega (arith, w.ends) in
    let is : n ≡ number_at base text a (b - a) = w.is ∙ ap (λ k. number_at base text a k) count in
    subst (λ m. IsRead m r) (sym is) read

-- one byte is a digit
one_by : (text : List ℕ) (a b n : ℕ) (r : Option ℕ) (form : Form) → a + 1 ≡ b → IsRead (number_at 10 text a (b - a)) r → IsIntegerBy text a n b form → IsRead n r
one_by text a b n r plain_digits one read d = writes_read 10 text a b n r read d.writes
one_by text a b n r (based base) one read d = absurd (omega (arith, one, d.writes.digits.some))
one_by text a b n r (code how) one read d = absurd (omega (arith, one, code_some text (a + 2) n b how d.1))

pub one_read : (text : List ℕ) (a b n : ℕ) (r : Option ℕ) → a + 1 ≡ b → IsRead (number_at 10 text a (b - a)) r → IsInteger text a n b → IsRead n r
one_read text a b n r one read d = one_by text a b n r d.form one read d.by

-- a backslash begins an escape of the character
pub escaped_code : (text : List ℕ) (a c b : ℕ) (how : Code) → get_or text a 0 ≡ 92 → IsCode text a c b how → IsEscape text a (Some c) b
escaped_code text a c b doubled backslash d = absurd (byte_clash text a 92 39 backslash d.1.by.0 (λ e. omega (arith, e)))
escaped_code text a c b escaped backslash d = d.by
escaped_code text a c b itself backslash d = absurd (d.no_backslash backslash)

-- and else the character is the code
pub itself_code : (text : List ℕ) (a c b : ℕ) (how : Code) → get_or text a 0 ≢ 39 → get_or text a 0 ≢ 92 → IsCode text a c b how → c ≡ code_at text a
itself_code text a c b doubled quote backslash d = absurd (quote d.1.by.0)
itself_code text a c b escaped quote backslash d = absurd (backslash d.by.backslash)
itself_code text a c b itself quote backslash d = d.is

value_by : (text : List ℕ) (t : Token) (r : Option ℕ) (n : ℕ) → t.kind ≡ Integer → IsInteger text t.start n t.end → IsRead n r → IsIntegerValue text t r
value_by text t (Some m) n kind d read = (kind, omega (arith, read.0, read.1), subst (λ k. IsInteger text t.start k t.end) (sym read.0) d)
value_by text t None n kind d read = inr (n, read, d)

some_only : (m : ℕ) (r : Option ℕ) → m ≤ greatest_value → IsRead m r → Some m ≡ r
some_only m (Some k) small read = ap (λ x. Some x) (sym read.0)
some_only m None small read = absurd (omega (arith, small, read))

none_only : (n : ℕ) (r : Option ℕ) → greatest_value < n → IsRead n r → None ≡ r
none_only n (Some k) over read = absurd (omega (arith, over, read.1))
none_only n None over read = refl

-- what is read of each number that the token writes is its value
pub read_value : (text : List ℕ) (t : Token) (r : Option ℕ) → t.kind ≡ Integer → IsSpelled text t.kind t.start t.end → ((n : ℕ) → IsInteger text t.start n t.end → IsRead n r) → IsIntegerValue text t r
read_value text t r kind spelled read =
    let word : Spells text t.start t.end Integer = subst (Spells text t.start t.end) kind spelled.spells in
    value_by text t r word.0 kind word.1 (read word.0 word.1)

pub read_only : (text : List ℕ) (t : Token) (r other : Option ℕ) → t.kind ≡ Integer → ((n : ℕ) → IsInteger text t.start n t.end → IsRead n r) → IsIntegerValue text t other → other ≡ r
read_only text t r (Some m) kind read value = some_only m r value.1 (read m value.2)
read_only text t r None kind read (inl ne) = absurd (ne kind)
read_only text t r None kind read (inr (n, over, d)) = none_only n r over (read n d)
