-- Layout from a place up to one where none begins, or a comment that isn't closed.
use Rattle.std.proofs.Common.{◌≡◌, ◌≢◌, ℕ, zero, suc, ◌+◌, ◌<◌, ◌≤◌, ◌⊎◌, List, [], length, IsUtf8, Bool, true, not, ◌&&◌, eqb, get_or, sym, ◌∙◌, subst, refl, inl, inr, arith}
use Rattle.std.proofs.lemmas.Bool.{eqb-true, eq-eqb, not-true, not-false, and_parts, and_from, both_ways, cases_eq}
use Rattle.prolog_tokens.specs.declared.chars.Class.{Class}
use Rattle.prolog_tokens.specs.declared.chars.Class.TheVariants.{White, Percent, Slash, Graphic, OrderMark, Inner, Other}
use Rattle.prolog_tokens.specs.declared.token.TokenFault.{TokenFault}
use Rattle.prolog_tokens.specs.declared.token.TokenFault.TheVariants.{OpenComment}
use Rattle.prolog_tokens.specs.Chars.{class_at}
use Rattle.prolog_tokens.specs.Numbers.{IsChar}
use Rattle.prolog_tokens.specs.Layout.{GoesToNewline, IsOpener, IsCloser, IsBracketed, IsOrderMark, IsHashBang, Sort, white, line, bracketed, mark, hash_bang, IsPiece, IsLayout}
use Rattle.prolog_tokens.specs.Faults.{IsOpenComment, IsWrong}
use Rattle.prolog_tokens.specs.Begins.{BeginsNoLayout}
use Rattle.prolog_tokens.specs.Cut.{IsWrongNext}
use Rattle.prolog_tokens.proofs.Classes.{byte_class, class_here, here}
use Rattle.prolog_tokens.proofs.Pieces.{char_once, piece_some, piece_within, layout_more}
use Rattle.prolog_tokens.proofs.Boundaries.{piece_boundary}
use Rattle.laws.proofs.Firsts.{StopsAt, first_stop}
use Rattle.laws.proofs.Runs.{char_end, newline_at}

abbrev closes_at : List ℕ → ℕ → Bool
closes_at text k = eqb (get_or text k 0) 42 && eqb (get_or text (k + 1) 0) 47

closer : (text : List ℕ) (k : ℕ) → closes_at text k ≡ true → IsCloser text k
closer text k is =
    let parts : (eqb (get_or text k 0) 42 ≡ true) × (eqb (get_or text (k + 1) 0) 47 ≡ true) = and_parts (eqb (get_or text k 0) 42) (eqb (get_or text (k + 1) 0) 47) is in
    record { star = eqb-true (get_or text k 0) 42 parts.0; slash = eqb-true (get_or text (k + 1) 0) 47 parts.1 }

no_closer : (text : List ℕ) (k : ℕ) → not (closes_at text k) ≡ true → IsCloser text k → ⊥
no_closer text k fails x =
    both_ways (closes_at text k) (not-true (closes_at text k) fails)
    (and_from (eqb (get_or text k 0) 42) (eqb (get_or text (k + 1) 0) 47) (eq-eqb (get_or text k 0) 42 x.star) (eq-eqb (get_or text (k + 1) 0) 47 x.slash))

abbrev HasBracketed : List ℕ → ℕ → Type 0
HasBracketed text a = (b : ℕ) × IsBracketed text a b

comment_by : (text : List ℕ) (a b : ℕ) → IsOpener text a → StopsAt (λ k. not (closes_at text k)) (length text) (a + 2) b → HasBracketed text a ⊎ IsOpenComment text a
comment_by text a b opens stop = elim stop.stops [
  | inl is ↦ inr (record {
    opens = opens;
    unclosed = λ k from x.
        let lt : k < b = omega (arith, is, here text k 42 x.star (omega arith)) in
        no_closer text k (stop.holds k from lt) x;
  })
  | inr fails ↦ inl (
    b + 2,
    record {
      opens = opens;
      close = b;
      after = stop.from;
      closes = closer text b (not-false (closes_at text b) fails);
      first = λ k from below x. no_closer text k (stop.holds k from below) x;
      ends = refl;
    },
  )
]

comment_end : (text : List ℕ) (a : ℕ) → IsOpener text a → HasBracketed text a ⊎ IsOpenComment text a
comment_end text a opens =
    let lt : a + 1 < length text = here text (a + 1) 42 opens.star (omega arith) in
    let stop : (b : ℕ) × StopsAt (λ k. not (closes_at text k)) (length text) (a + 2) b = first_stop (λ k. not (closes_at text k)) (length text) (a + 2) (omega (arith, lt)) in
    comment_by text a stop.0 opens stop.1

opener_or : (text : List ℕ) (a : ℕ) → IsOpener text a ⊎ (IsOpener text a → ⊥)
opener_or text a = elim (cases_eq (get_or text a 0) 47) [
  | inl slash ↦ elim (cases_eq (get_or text (a + 1) 0) 42) [
    | inl star ↦ inl (record { slash = slash; star = star })
    | inr ne ↦ inr (λ x. ne x.star)
  ]
  | inr ne ↦ inr (λ x. ne x.slash)
]

mark_by : (text : List ℕ) (a : ℕ) (class : Class) → class_at text 0 ≡ class → IsOrderMark text a ⊎ (IsOrderMark text a → ⊥)
mark_by text a OrderMark is =
    let within : 0 < length text = class_here text 0 (λ e. let both : OrderMark ≡ Other = sym is ∙ e in cc) in
    let begins : class_at text 0 ≢ Inner = λ e. let both : OrderMark ≡ Inner = sym is ∙ e in cc in
    let char : (b : ℕ) × IsChar text 0 b = char_end text 0 within begins in
    elim (cases_eq char.0 a) [
      | inl same ↦ inl (record { is = is; char = subst (IsChar text 0) same char.1 })
      | inr ne ↦ inr (λ x. ne (char_once text 0 char.0 a char.1 x.char))
    ]
mark_by text a class is = inr (λ x. let both : class ≡ OrderMark = sym is ∙ x.is in cc)

opens_or : (text : List ℕ) (a : ℕ) → ((a ≡ 0) ⊎ IsOrderMark text a) ⊎ ((a ≡ 0) ⊎ IsOrderMark text a → ⊥)
opens_or text a = elim (cases_eq a 0) [
  | inl is ↦ inl (inl is)
  | inr ne ↦ elim (mark_by text a (class_at text 0) refl) [
    | inl x ↦ inl (inr x)
    | inr none ↦ inr (λ first. elim first [ inl is ↦ ne is | inr x ↦ none x ])
  ]
]

hash_bang_or : (text : List ℕ) (a : ℕ) → IsHashBang text a ⊎ (IsHashBang text a → ⊥)
hash_bang_or text a = elim (cases_eq (get_or text a 0) 35) [
  | inl hash ↦ elim (cases_eq (get_or text (a + 1) 0) 33) [
    | inl bang ↦ elim (opens_or text a) [
      | inl first ↦ inl (record { first = first; hash = hash; bang = bang })
      | inr none ↦ inr (λ x. none x.first)
    ]
    | inr ne ↦ inr (λ x. ne x.bang)
  ]
  | inr ne ↦ inr (λ x. ne x.hash)
]

abbrev pub HasWrong : List ℕ → ℕ → Type 0
HasWrong text a = (fault : TokenFault) × IsWrong text a fault

abbrev PieceOr : List ℕ → ℕ → Type 0
PieceOr text a = ((b : ℕ) × (s : Sort) × IsPiece text a b s) ⊎ (BeginsNoLayout text a ⊎ HasWrong text a)

no_layout : (text : List ℕ) (a : ℕ) (class : Class) → class_at text a ≡ class → class ≢ White → class ≢ Percent → (class ≡ Slash → IsOpener text a → ⊥) → (class ≡ OrderMark → 0 < a)
    → (class ≡ Graphic → IsHashBang text a → ⊥) → PieceOr text a
no_layout text a class is no_white no_line no_comment no_mark no_hash_bang = inr (inl (record {
  no_white = λ e. no_white (sym is ∙ e);
  no_line = λ e. no_line (sym is ∙ e);
  no_comment = λ x. no_comment (sym is ∙ byte_class text a 47 x.slash (omega arith)) x;
  no_mark = λ e. no_mark (sym is ∙ e);
  no_hash_bang = λ x. no_hash_bang (sym is ∙ byte_class text a 35 x.hash (omega arith)) x;
}))

slash_piece : (text : List ℕ) (a : ℕ) → class_at text a ≡ Slash → PieceOr text a
slash_piece text a is = elim (opener_or text a) [
  | inl opens ↦ elim (comment_end text a opens) [
    | inl (b, x) ↦ inl (b, bracketed, x)
    | inr open_comment ↦ inr (inr (OpenComment a, (refl, open_comment)))
  ]
  | inr none ↦ no_layout text a Slash is (λ e. cc) (λ e. cc) (λ _ x. none x) (λ e. absurd cc) (λ e x. cc)
]

mark_piece : (text : List ℕ) (a : ℕ) → class_at text a ≡ OrderMark → (b : ℕ) → IsChar text a b → PieceOr text a
mark_piece text a is b char = elim (cases_eq a 0) [
  | inl first ↦ inl (b, mark, (first, record { is = subst (λ n. class_at text n ≡ OrderMark) first is; char = subst (λ n. IsChar text n b) first char }))
  | inr ne ↦ no_layout text a OrderMark is (λ e. cc) (λ e. cc) (λ e x. cc) (λ _. omega (arith, ne)) (λ e x. cc)
]

hash_bang_piece : (text : List ℕ) (a : ℕ) → class_at text a ≡ Graphic → a ≤ length text → PieceOr text a
hash_bang_piece text a is within = elim (hash_bang_or text a) [
  | inl x ↦ let goes : (b : ℕ) × GoesToNewline text a b = newline_at text a within in inl (goes.0, hash_bang, (x, goes.1))
  | inr none ↦ no_layout text a Graphic is (λ e. cc) (λ e. cc) (λ e x. cc) (λ e. absurd cc) (λ _ x. none x)
]

-- a piece of layout, or none, or a comment that isn't closed, by the class at the place
piece_by : (text : List ℕ) (a : ℕ) (class : Class) → class_at text a ≡ class → a < length text → class_at text a ≢ Inner → PieceOr text a
piece_by text a White is within begins = let char : (b : ℕ) × IsChar text a b = char_end text a within begins in inl (char.0, white, (is, char.1))
piece_by text a Percent is within begins = let goes : (b : ℕ) × GoesToNewline text a b = newline_at text a (omega (arith, within)) in inl (goes.0, line, (is, goes.1))
piece_by text a Slash is within begins = slash_piece text a is
piece_by text a OrderMark is within begins = let char : (b : ℕ) × IsChar text a b = char_end text a within begins in mark_piece text a is char.0 char.1
piece_by text a Graphic is within begins = hash_bang_piece text a is (omega (arith, within))
piece_by text a class is within begins = no_layout text a class is (λ e. cc) (λ e. cc) (λ e x. cc) (λ e. absurd cc) (λ e x. cc)

-- layout from a place, up to the end of the text or to a place where none begins
pub record LayoutEnds (text : List ℕ) (from : ℕ) : Type 0 where
  pub end : ℕ
  pub layout : IsLayout text from end
  pub within : end ≤ length text
  pub begins : class_at text end ≢ Inner
  pub stops : (end ≡ length text) ⊎ BeginsNoLayout text end

abbrev pub HasWrongNext : List ℕ → ℕ → Type 0
HasWrongNext text from = (fault : TokenFault) × IsWrongNext text from fault

pieces_end : (text : List ℕ) (from : ℕ) → IsUtf8 text → (count at : ℕ) → at ≤ length text → length text ≤ at + count → class_at text at ≢ Inner → IsLayout text from at → LayoutEnds text from ⊎ HasWrongNext text from
pieces_end text from utf8 zero at within left begins layout =
    inl (record { end = at; layout = layout; within = within; begins = begins; stops = let is : at ≡ length text = omega (arith, within, left) in inl is })
pieces_end text from utf8 (suc count) at within left begins layout = elim (cases_eq at (length text)) [
  | inl is ↦ inl (record { end = at; layout = layout; within = within; begins = begins; stops = inl is })
  | inr ne ↦ elim (piece_by text at (class_at text at) refl (omega (arith, within, ne)) begins) [
    | inl (b, s, piece) ↦
        pieces_end text from utf8 count b (piece_within text at b s piece) (omega (arith, left, piece_some text at b s piece)) (piece_boundary text at b s utf8 piece) (layout_more text from at b s layout piece)
    | inr (inl none) ↦ inl (record { end = at; layout = layout; within = within; begins = begins; stops = inr none })
    | inr (inr (fault, wrong)) ↦ inr (fault, record { place = at; layout = layout; wrong = wrong })
  ]
]

-- there is such layout, or something is wrong behind layout
pub layout_end : (text : List ℕ) (from : ℕ) → IsUtf8 text → from ≤ length text → class_at text from ≢ Inner → LayoutEnds text from ⊎ HasWrongNext text from
layout_end text from utf8 within begins = pieces_end text from utf8 (length text) from within (omega arith) begins (record { pieces = []; are = refl })
