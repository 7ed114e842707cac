-- The token that begins at a place where no layout does, or what is wrong there.
use Rattle.std.proofs.Common.{◌≡◌, ◌≢◌, ℕ, ◌+◌, ◌<◌, ◌⊎◌, List, length, true, get_or, ap, sym, ◌∙◌, refl, inl, inr}
use Rattle.std.proofs.lemmas.Bool.{cases_eq}
use Rattle.prolog_tokens.specs.declared.chars.Class.{Class}
use Rattle.prolog_tokens.specs.declared.chars.Class.TheVariants.{White, Small, Capital, Digit, SingleQuote, DoubleQuote, BackQuote, RoundOpen, RoundClose, SquareOpen, SquareClose, CurlyOpen, CurlyClose, CommaSign, BarSign, Percent, Dot, Slash, Solo, Graphic, Further, OrderMark, Inner, Other}
use Rattle.prolog_tokens.specs.declared.token.Kind.{Kind}
use Rattle.prolog_tokens.specs.declared.token.Kind.TheVariants.{Name, Quoted, Variable, Integer, Float, Str, BackStr, OpenRound, CloseRound, OpenSquare, CloseSquare, OpenCurly, CloseCurly, Comma, Bar, End}
use Rattle.prolog_tokens.specs.declared.token.TokenFault.TheVariants.{BadChar, OpenQuote, BadEscape}
use Rattle.prolog_tokens.specs.declared.numbers.NumberEnd.{NumberEnd}
use Rattle.prolog_tokens.specs.declared.numbers.NumberEnd.TheVariants.{Whole, Fraction, BadCode}
use Rattle.prolog_tokens.specs.Chars.{class_at, is_graphic}
use Rattle.prolog_tokens.specs.Quoted.{IsQuote, IsQuoted}
use Rattle.prolog_tokens.specs.Ends.{NumberEndIs}
use Rattle.prolog_tokens.specs.Spelling.{IsRun, IsEnd, IsSpelled}
use Rattle.prolog_tokens.specs.Begins.{BeginsNoLayout}
use Rattle.prolog_tokens.proofs.OneToken.{single_quote, double_quote, back_quote}
use Rattle.prolog_tokens.proofs.Spelled.{single_here, double_here, back_here, digit_there, GoesOn, name_spelled, variable_spelled, quoted_spelled, string_spelled, back_spelled, end_spelled, graphic_spelled, sign_spelled}
use Rattle.laws.proofs.Runs.{word_end, run_end}
use Rattle.laws.proofs.QuotedItems.{quoted_end}
use Rattle.laws.proofs.NumberItems.{HasNumberEnd, number_end}
use Rattle.laws.proofs.LayoutItems.{HasWrong}

abbrev pub HasToken : List ℕ → ℕ → Type 0
HasToken text a = (k : Kind) × (b : ℕ) × IsSpelled text k a b

abbrev pub TokenOr : List ℕ → ℕ → Type 0
TokenOr text a = HasToken text a ⊎ HasWrong text a

-- what follows an end token
abbrev Follows : List ℕ → ℕ → Type 0
Follows text b = (b ≡ length text) ⊎ ((class_at text b ≡ White) ⊎ (class_at text b ≡ Percent))

follows_by : (text : List ℕ) (b : ℕ) (class : Class) → class_at text b ≡ class → Follows text b ⊎ (Follows text b → ⊥)
follows_by text b White is = inl (inr (inl is))
follows_by text b Percent is = inl (inr (inr is))
follows_by text b class is = elim (cases_eq b (length text)) [
  | inl past ↦ inl (inl past)
  | inr ne ↦ inr (λ f. elim f [
    | inl past ↦ ne past
    | inr (inl here) ↦ let both : class ≡ White = sym is ∙ here in cc
    | inr (inr here) ↦ let both : class ≡ Percent = sym is ∙ here in cc
  ])
]

end_or : (text : List ℕ) (a b : ℕ) → IsRun text a b → IsEnd text a b ⊎ (IsEnd text a b → ⊥)
end_or text a b run = elim (cases_eq b (a + 1)) [
  | inl one ↦ elim (cases_eq (get_or text a 0) 46) [
    | inl dot ↦ elim (follows_by text b (class_at text b) refl) [
      | inl follows ↦ inl (record { run = run; dot = dot; one = one; follows = follows })
      | inr none ↦ inr (λ x. none x.follows)
    ]
    | inr ne ↦ inr (λ x. ne x.dot)
  ]
  | inr ne ↦ inr (λ x. ne x.one)
]

spell_run : (text : List ℕ) (a : ℕ) → a < length text → is_graphic (class_at text a) ≡ true → BeginsNoLayout text a → TokenOr text a
spell_run text a within graphic none =
    let run : (b : ℕ) × IsRun text a b = run_end text a within graphic in
    elim (end_or text a run.0 run.1) [
      | inl x ↦ inl (End, run.0, end_spelled text a run.0 x)
      | inr no_end ↦ inl (Name, run.0, graphic_spelled text a run.0 (record { run = run.1; no_comment = none.no_comment; no_end = no_end; no_hash_bang = none.no_hash_bang }))
    ]

spell_number : (text : List ℕ) (a : ℕ) (r : NumberEnd) → NumberEndIs text a r → TokenOr text a
spell_number text a (Whole b) x = inl (Integer, b, x)
spell_number text a (Fraction b) x = inl (Float, b, x)
spell_number text a BadCode x = inr (BadEscape (a + 2), inr x.0)

spell_quoted : (text : List ℕ) (q a : ℕ) (k : Kind) → IsQuote q → a < length text → get_or text a 0 ≡ q → ((b : ℕ) → IsQuoted text q a b → IsSpelled text k a b) → TokenOr text a
spell_quoted text q a k quote within opens spelled = elim (quoted_end text q a quote within opens) [
  | inl (b, x) ↦ inl (k, b, spelled b x)
  | inr (inl x) ↦ inr (OpenQuote a, (refl, (q, quote, x)))
  | inr (inr (p, x)) ↦ inr (BadEscape p, inl (q, quote, x))
]

spell_by : (text : List ℕ) (a : ℕ) (class : Class) → class_at text a ≡ class → a < length text → class_at text a ≢ Inner → BeginsNoLayout text a → TokenOr text a
spell_by text a White is within begins none = absurd (none.no_white is)
spell_by text a Small is within begins none = let word : (b : ℕ) × GoesOn text a b = word_end text a within in inl (Name, word.0, name_spelled text a word.0 is word.1)
spell_by text a Capital is within begins none = let word : (b : ℕ) × GoesOn text a b = word_end text a within in inl (Variable, word.0, variable_spelled text a word.0 is word.1)
spell_by text a Digit is within begins none = let found : HasNumberEnd text a = number_end text a within (digit_there text a is) in spell_number text a found.0 found.1
spell_by text a SingleQuote is within begins none = spell_quoted text 39 a Quoted single_quote within (single_here text a is) (λ b x. quoted_spelled text a b is x)
spell_by text a DoubleQuote is within begins none = spell_quoted text 34 a Str double_quote within (double_here text a is) (λ b x. string_spelled text a b is x)
spell_by text a BackQuote is within begins none = spell_quoted text 96 a BackStr back_quote within (back_here text a is) (λ b x. back_spelled text a b is x)
spell_by text a RoundOpen is within begins none = inl (OpenRound, a + 1, sign_spelled text a OpenRound RoundOpen refl is)
spell_by text a RoundClose is within begins none = inl (CloseRound, a + 1, sign_spelled text a CloseRound RoundClose refl is)
spell_by text a SquareOpen is within begins none = inl (OpenSquare, a + 1, sign_spelled text a OpenSquare SquareOpen refl is)
spell_by text a SquareClose is within begins none = inl (CloseSquare, a + 1, sign_spelled text a CloseSquare SquareClose refl is)
spell_by text a CurlyOpen is within begins none = inl (OpenCurly, a + 1, sign_spelled text a OpenCurly CurlyOpen refl is)
spell_by text a CurlyClose is within begins none = inl (CloseCurly, a + 1, sign_spelled text a CloseCurly CurlyClose refl is)
spell_by text a CommaSign is within begins none = inl (Comma, a + 1, sign_spelled text a Comma CommaSign refl is)
spell_by text a BarSign is within begins none = inl (Bar, a + 1, sign_spelled text a Bar BarSign refl is)
spell_by text a Percent is within begins none = absurd (none.no_line is)
spell_by text a Dot is within begins none = spell_run text a within (ap is_graphic is) none
spell_by text a Slash is within begins none = spell_run text a within (ap is_graphic is) none
spell_by text a Solo is within begins none = inl (Name, a + 1, sign_spelled text a Name Solo refl is)
spell_by text a Graphic is within begins none = spell_run text a within (ap is_graphic is) none
spell_by text a Further is within begins none = inr (BadChar a, (refl, record { within = within; begins_none = inr (inl is) }))
spell_by text a OrderMark is within begins none = inr (BadChar a, (refl, record { within = within; begins_none = inr (inr (is, none.no_mark is)) }))
spell_by text a Inner is within begins none = absurd (begins is)
spell_by text a Other is within begins none = inr (BadChar a, (refl, record { within = within; begins_none = inl is }))

pub token_or : (text : List ℕ) (a : ℕ) → a < length text → class_at text a ≢ Inner → BeginsNoLayout text a → TokenOr text a
token_or text a within begins none = spell_by text a (class_at text a) refl within begins none
