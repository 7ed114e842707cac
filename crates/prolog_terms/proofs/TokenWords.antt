-- Each token of a text is one word.
use Rattle.std.proofs.Common.{◌≡◌, ℕ, ◌+◌, List, [], ◌∷◌, ◌++◌, Option, Some, None, length, get_or, ap, sym, ◌∙◌, subst, refl, inl, inr, arith}
use Rattle.std.proofs.lemmas.Bool.{cases_Bool}
use Rattle.prolog_tokens.specs.declared.token.Kind.{Kind}
use Rattle.prolog_tokens.specs.declared.token.Kind.TheVariants.{Name, Quoted, Variable, Integer, Float, Str, BackStr, OpenRound, CloseRound, OpenSquare, CloseSquare, OpenCurly, CloseCurly, Comma, Bar, End}
use Rattle.prolog_tokens.specs.declared.token.Token.{Token}
use Rattle.prolog_tokens.specs.Cut.{StandBetween, IsCut, IsTokenOf}
use Rattle.prolog_tokens.specs.Digits.{Writes, number_at}
use Rattle.prolog_tokens.specs.Numbers.{Code, doubled, escaped, itself, IsCode, Form, plain_digits, based, code, base_of, IsIntegerBy, IsInteger}
use Rattle.prolog_tokens.specs.Quoted.{twice, escape}
use Rattle.prolog_tokens.specs.Spelling.{Spells}
use Rattle.prolog_tokens.specs.Values.{NameTextBy, IsIntegerValue}
use Rattle.prolog_tokens.proofs.Names.{quoted_text_once}
use Rattle.prolog_tokens.proofs.Once.{among_digits, part_once}
use Rattle.prolog_tokens.proofs.OneToken.{single_quote, base_letter, code_some}
use Rattle.prolog_terms.specs.Clause.{ArePart}
use Rattle.prolog_terms.specs.Words.{Word, is_name}
use Rattle.prolog_terms.specs.Clause.{IsWordOf, AreWords}

-- digits write one number
writes_once : (base : ℕ) (text : List ℕ) (a b n m : ℕ) → Writes base text a b n → Writes base text a b m → n ≡ m
writes_once base text a b n m x y =
    let count : x.count ≡ y.count = omega (arith, x.ends, y.ends) in x.is ∙ ap (λ k. number_at base text a k) count ∙ sym y.is

code_once : (text : List ℕ) (a n m b : ℕ) (how other : Code) → IsCode text a n b how → IsCode text a m b other → n ≡ m
code_once text a n m b doubled doubled x y = x.0 ∙ sym y.0
code_once text a n m b doubled escaped x y =
    let both : twice ≡ escape (Some m) = (part_once text 39 a twice (escape (Some m)) b b (λ e. omega (arith, e)) x.1 y).what in cc
code_once text a n m b doubled itself x y = absurd (y.no_quote x.1.by.0)
code_once text a n m b escaped doubled x y =
    let both : escape (Some n) ≡ twice = (part_once text 39 a (escape (Some n)) twice b b (λ e. omega (arith, e)) x y.1).what in cc
code_once text a n m b escaped escaped x y =
    let both : escape (Some n) ≡ escape (Some m) = (part_once text 39 a (escape (Some n)) (escape (Some m)) b b (λ e. omega (arith, e)) x y).what in cc
code_once text a n m b escaped itself x y = absurd (y.no_backslash x.by.backslash)
code_once text a n m b itself doubled x y = absurd (x.no_quote y.1.by.0)
code_once text a n m b itself escaped x y = absurd (x.no_backslash y.by.backslash)
code_once text a n m b itself itself x y = x.is ∙ sym y.is

no_base : (v base : ℕ) → v ≡ 39 → base_of v ≡ Some base → ⊥
no_base v base is letter = let both : None ≡ Some base = subst (λ n. base_of n ≡ Some base) is letter in cc

by_once : (text : List ℕ) (a n m b : ℕ) (form other : Form) → IsIntegerBy text a n b form → IsIntegerBy text a m b other → n ≡ m
by_once text a n m b plain_digits plain_digits x y = writes_once 10 text a b n m x.writes y.writes
by_once text a n m b plain_digits (based base) x y =
    absurd (among_digits 10 text a b (a + 1) (get_or text (a + 1) 0) x.writes.digits (omega arith) (omega (arith, y.writes.digits.some)) refl (base_letter (get_or text (a + 1) 0) base y.letter).0)
by_once text a n m b plain_digits (code how) x y =
    absurd (among_digits 10 text a b (a + 1) 39 x.writes.digits (omega arith) (omega (arith, code_some text (a + 2) m b how y.1)) y.0.quote (omega arith))
by_once text a n m b (based base) plain_digits x y =
    absurd (among_digits 10 text a b (a + 1) (get_or text (a + 1) 0) y.writes.digits (omega arith) (omega (arith, x.writes.digits.some)) refl (base_letter (get_or text (a + 1) 0) base x.letter).0)
by_once text a n m b (based base) (based second) x y =
    let bases : second ≡ base = (let both : Some second ≡ Some base = sym y.letter ∙ x.letter in cc) in
    writes_once base text (a + 2) b n m x.writes (subst (λ k. Writes k text (a + 2) b m) bases y.writes)
by_once text a n m b (based base) (code how) x y = absurd (no_base _ base y.0.quote x.letter)
by_once text a n m b (code how) plain_digits x y =
    absurd (among_digits 10 text a b (a + 1) 39 y.writes.digits (omega arith) (omega (arith, code_some text (a + 2) n b how x.1)) x.0.quote (omega arith))
by_once text a n m b (code how) (based base) x y = absurd (no_base _ base x.0.quote y.letter)
by_once text a n m b (code how) (code other) x y = code_once text (a + 2) n m b how other x.1 y.1

integer_once : (text : List ℕ) (a n m b : ℕ) → IsInteger text a n b → IsInteger text a m b → n ≡ m
integer_once text a n m b x y = by_once text a n m b x.form y.form x.by y.by

-- a token has one value
value_once : (text : List ℕ) (t : Token) (r s : Option ℕ) → IsIntegerValue text t r → IsIntegerValue text t s → r ≡ s
value_once text t (Some n) (Some m) x y = ap (λ k. Some k) (integer_once text t.start n m t.end x.2 y.2)
value_once text t (Some n) None x (inl differs) = absurd (differs x.0)
value_once text t (Some n) None x (inr (m, over, d)) = absurd (omega (arith, integer_once text t.start n m t.end x.2 d, x.1, over))
value_once text t None (Some m) (inl differs) y = absurd (differs y.0)
value_once text t None (Some m) (inr (n, over, d)) y = absurd (omega (arith, integer_once text t.start n m t.end d y.2, y.1, over))
value_once text t None None x y = refl

-- and one name
name_once : (text : List ℕ) (a b : ℕ) (x y : List ℕ) (k : Kind) → Spells text a b k → NameTextBy text a b x k → NameTextBy text a b y k → x ≡ y
name_once text a b x y Name s is also = is ∙ sym also
name_once text a b x y Quoted s is also = quoted_text_once text 39 a b x y single_quote s is also
name_once text a b x y Variable s is also = absurd is
name_once text a b x y Integer s is also = absurd is
name_once text a b x y Float s is also = absurd is
name_once text a b x y Str s is also = absurd is
name_once text a b x y BackStr s is also = absurd is
name_once text a b x y OpenRound s is also = absurd is
name_once text a b x y CloseRound s is also = absurd is
name_once text a b x y OpenSquare s is also = absurd is
name_once text a b x y CloseSquare s is also = absurd is
name_once text a b x y OpenCurly s is also = absurd is
name_once text a b x y CloseCurly s is also = absurd is
name_once text a b x y Comma s is also = absurd is
name_once text a b x y Bar s is also = absurd is
name_once text a b x y End s is also = absurd is

text_once : (text : List ℕ) (t : Token) (v w : Word) → IsTokenOf text t → IsWordOf text t v → IsWordOf text t w → v.text ≡ w.text
text_once text t v w spelled x y = elim (cases_Bool (is_name t.kind)) [
  | inl name ↦ name_once text t.start t.end v.text w.text t.kind spelled.spells (x.named name) (y.named name)
  | inr plain ↦ x.unnamed plain ∙ sym (y.unnamed plain)
]

one_word : (text : List ℕ) (t : Token) (v w : Word) → IsTokenOf text t → IsWordOf text t v → IsWordOf text t w → v ≡ w
one_word text t v w spelled x y =
    let kind = x.kind ∙ sym y.kind in
    let names = text_once text t v w spelled x y in
    let value = value_once text t v.value w.value x.value y.value in
    let layout = x.layout ∙ sym y.layout in
    let span = x.span ∙ sym y.span in
    λ i. record { kind = kind i; text = names i; value = value i; after_layout = layout i; span = span i }

-- each of them is a token of the text
abbrev pub AreSpelled : List ℕ → List Token → Type 0
AreSpelled text [] = Unit {0}
AreSpelled text (t ∷ ts) = IsTokenOf text t × AreSpelled text ts

-- tokens are one list of words
pub one_words : (text : List ℕ) (ts : List Token) (ws vs : List Word) → AreSpelled text ts → AreWords text ts ws → AreWords text ts vs → ws ≡ vs
one_words text [] [] [] spelled x y = refl
one_words text [] [] (v ∷ vs) spelled x y = absurd y
one_words text [] (w ∷ ws) vs spelled x y = absurd x
one_words text (t ∷ ts) [] vs spelled x y = absurd x
one_words text (t ∷ ts) (w ∷ ws) [] spelled x y = absurd y
one_words text (t ∷ ts) (w ∷ ws) (v ∷ vs) spelled x y =
    let first = one_word text t w v spelled.0 x.0 y.0 in
    let rest = one_words text ts ws vs spelled.1 x.1 y.1 in
    λ i. first i ∷ rest i

pub words_count : (text : List ℕ) (ts : List Token) (ws : List Word) → AreWords text ts ws → length ts ≡ length ws
words_count text [] [] are = refl
words_count text [] (w ∷ ws) are = absurd are
words_count text (t ∷ ts) [] are = absurd are
words_count text (t ∷ ts) (w ∷ ws) are = omega (arith, words_count text ts ws are.1)

-- the tokens of a text are spelled in it

stand_spelled : (text : List ℕ) (a b : ℕ) (ts : List Token) → StandBetween text a ts b → AreSpelled text ts
stand_spelled text a b [] stand = tt
stand_spelled text a b (t ∷ ts) stand = (stand.0.spelled, stand_spelled text t.end b ts stand.1)

pub spelled_front : (text : List ℕ) (ts us : List Token) → AreSpelled text (ts ++ us) → AreSpelled text ts
spelled_front text [] us spelled = tt
spelled_front text (t ∷ ts) us spelled = (spelled.0, spelled_front text ts us spelled.1)

pub spelled_behind : (text : List ℕ) (ts us : List Token) → AreSpelled text (ts ++ us) → AreSpelled text us
spelled_behind text [] us spelled = spelled
spelled_behind text (t ∷ ts) us spelled = spelled_behind text ts us spelled.1

pub part_spelled : (text : List ℕ) (ts : List Token) → ArePart text ts → AreSpelled text ts
part_spelled text ts part =
    let all = stand_spelled text 0 part.cut.last (part.before ++ (ts ++ part.after)) part.cut.stand in
    spelled_front text ts part.after (spelled_behind text part.before (ts ++ part.after) all)

pub cut_spelled : (text : List ℕ) (ts : List Token) → IsCut text ts → AreSpelled text ts
cut_spelled text ts cut = stand_spelled text 0 cut.last ts cut.stand
