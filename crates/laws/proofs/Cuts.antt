-- A text is tokens with layout between them, or has a fault.
use Rattle.std.proofs.Common.{◌≡◌, ◌≢◌, ℕ, zero, suc, ◌+◌, ◌<◌, ◌≤◌, ◌⊎◌, ◌↔◌, List, [], ◌∷◌, ◌++◌, length, IsUtf8, IsTrue, Bool, ◌||◌, eqb, ltb, subst, refl, inl, inr, arith}
use Rattle.std.proofs.lemmas.Bool.{eqb-true, eq-eqb, ltb-true, lt-ltb, or_cases, or_left, or_right, cases_eq}
use Rattle.prolog_tokens.specs.declared.chars.Class.TheVariants.{Inner}
use Rattle.prolog_tokens.specs.declared.token.Kind.{Kind}
use Rattle.prolog_tokens.specs.declared.token.Token.{Token}
use Rattle.prolog_tokens.specs.declared.token.TokenFault.{TokenFault}
use Rattle.prolog_tokens.specs.Chars.{class_at}
use Rattle.prolog_tokens.specs.Layout.{IsLayout}
use Rattle.prolog_tokens.specs.Spelling.{IsSpelled}
use Rattle.prolog_tokens.specs.Cut.{IsNext, StandBetween, IsCut, HasFault}
use Rattle.prolog_tokens.proofs.Classes.{begins_first}
use Rattle.prolog_tokens.proofs.OneToken.{token_within}
use Rattle.prolog_tokens.proofs.Between.{stand_more, next_some}
use Rattle.prolog_tokens.proofs.Boundaries.{token_boundary}
use Rattle.laws.proofs.LayoutItems.{LayoutEnds, HasWrongNext, layout_end}
use Rattle.laws.proofs.Spellings.{TokenOr, token_or}

-- whether layout or the beginning of the text stands directly before the start
abbrev stands_apart : ℕ → ℕ → Bool
stands_apart at start = eqb at 0 || ltb at start

apart_told : (at start : ℕ) → IsTrue (stands_apart at start) ↔ ((at ≡ 0) ⊎ (at < start))
apart_told at start = (
  λ told. elim (or_cases (eqb at 0) (ltb at start) told) [
    | inl first ↦ inl (eqb-true at 0 first)
    | inr apart ↦ inr (ltb-true at start apart)
  ],
  λ is. elim is [
    | inl first ↦ or_left (eqb at 0) (ltb at start) (eq-eqb at 0 first)
    | inr apart ↦ or_right (eqb at 0) (ltb at start) (lt-ltb at start apart)
  ],
)

-- the token that is spelled behind the layout
abbrev token_behind : ℕ → Kind → ℕ → ℕ → Token
token_behind at k a b = record { kind = k; start = a; end = b; after_layout = stands_apart at a }

next_is : (text : List ℕ) (at a b : ℕ) (k : Kind) → IsLayout text at a → IsSpelled text k a b → IsNext text at (token_behind at k a b)
next_is text at a b k layout spelled = record { layout = layout; spelled = spelled; told = apart_told at a }

-- what stands next behind a place: a token, layout up to the end of the text, or something wrong
abbrev NextOr : List ℕ → ℕ → Type 0
NextOr text at = ((t : Token) × IsNext text at t) ⊎ (IsLayout text at (length text) ⊎ HasWrongNext text at)

token_next : (text : List ℕ) (at a : ℕ) → IsLayout text at a → TokenOr text a → NextOr text at
token_next text at a layout (inl (k, b, spelled)) = inl (token_behind at k a b, next_is text at a b k layout spelled)
token_next text at a layout (inr (fault, wrong)) = inr (inr (fault, record { place = a; layout = layout; wrong = wrong }))

behind_layout : (text : List ℕ) (at : ℕ) → LayoutEnds text at → NextOr text at
behind_layout text at x = elim x.stops [
  | inl is ↦ inr (inl (subst (IsLayout text at) is x.layout))
  | inr none ↦ elim (cases_eq x.end (length text)) [
    | inl is ↦ inr (inl (subst (IsLayout text at) is x.layout))
    | inr ne ↦ token_next text at x.end x.layout (token_or text x.end (omega (arith, x.within, ne)) x.begins none)
  ]
]

next_or : (text : List ℕ) (at : ℕ) → IsUtf8 text → at ≤ length text → class_at text at ≢ Inner → NextOr text at
next_or text at utf8 within begins = elim (layout_end text at utf8 within begins) [
  | inl x ↦ behind_layout text at x
  | inr wrong ↦ inr (inr wrong)
]

abbrev CutOr : List ℕ → Type 0
CutOr text = ((ts : List Token) × IsCut text ts) ⊎ ((fault : TokenFault) × HasFault text fault)

cut_stop : (text : List ℕ) (at : ℕ) (ts : List Token) → StandBetween text 0 ts at → IsLayout text at (length text) ⊎ HasWrongNext text at → CutOr text
cut_stop text at ts stand (inl layout) = inl (ts, record { last = at; stand = stand; layout = layout })
cut_stop text at ts stand (inr (fault, next)) = inr (fault, record { tokens = ts; last = at; stand = stand; next = next })

-- a token stands within the text
next_within : (text : List ℕ) (at : ℕ) (t : Token) → IsNext text at t → t.end ≤ length text
next_within text at t next = token_within text t.start t.end t.kind next.spelled.spells

cut_from : (text : List ℕ) → IsUtf8 text → (count at : ℕ) (ts : List Token) → at ≤ length text → length text ≤ at + count → class_at text at ≢ Inner → StandBetween text 0 ts at → CutOr text
cut_from text utf8 zero at ts within left begins stand = elim (next_or text at utf8 within begins) [
  | inl (t, next) ↦ absurd (omega (arith, left, next_some text at t next, next_within text at t next))
  | inr stops ↦ cut_stop text at ts stand stops
]
cut_from text utf8 (suc count) at ts within left begins stand = elim (next_or text at utf8 within begins) [
  | inl (t, next) ↦
      cut_from text utf8 count t.end (ts ++ t ∷ []) (next_within text at t next) (omega (arith, left, next_some text at t next)) (token_boundary text t.start t.end t.kind utf8 next.spelled.spells)
      (stand_more text 0 at ts t stand next)
  | inr stops ↦ cut_stop text at ts stand stops
]

pub cut_or_fault : (text : List ℕ) → IsUtf8 text → CutOr text
cut_or_fault text utf8 = cut_from text utf8 (length text) 0 [] (omega arith) (omega arith) (begins_first text utf8) refl
