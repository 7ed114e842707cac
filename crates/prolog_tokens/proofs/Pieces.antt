-- Layout that leads to where none begins ends at one place, and no token begins where layout does.
use Rattle.std.proofs.Common.{◌≡◌, ◌≢◌, ℕ, ◌+◌, ◌<◌, ◌≤◌, List, [], ◌∷◌, ◌++◌, length, Option, Some, None, get_or, ap, sym, ◌∙◌, subst, refl, inl, inr, arith}
use Rattle.std.proofs.lemmas.Bool.{cases_lt}
use Rattle.prolog_tokens.specs.declared.chars.Class.{Class}
use Rattle.prolog_tokens.specs.declared.chars.Class.TheVariants.{White, Percent, Slash, Graphic, OrderMark, Other}
use Rattle.prolog_tokens.specs.declared.token.Kind.{Kind}
use Rattle.prolog_tokens.specs.Chars.{class_at}
use Rattle.prolog_tokens.specs.Numbers.{IsChar}
use Rattle.prolog_tokens.specs.Layout.{GoesToNewline, IsBracketed, Sort, white, line, bracketed, mark, hash_bang, IsPiece, ArePieces, IsLayout, NoPiece}
use Rattle.prolog_tokens.specs.Spelling.{Spells}
use Rattle.prolog_tokens.proofs.Classes.{byte_class, class_here, here}
use Rattle.prolog_tokens.proofs.Families.{SpellsBy, by_this}
use Rattle.prolog_tokens.proofs.Once.{byte_clash}

-- the sort of layout that a class begins, if any
abbrev pub class_sort : Class → Option Sort
class_sort White = Some white
class_sort Percent = Some line
class_sort Slash = Some bracketed
class_sort OrderMark = Some mark
class_sort Graphic = Some hash_bang
class_sort _ = None

-- the class at a place tells the sort of the layout that begins there
pub sort_is : (text : List ℕ) (a b : ℕ) (s : Sort) → IsPiece text a b s → class_sort (class_at text a) ≡ Some s
sort_is text a b white p = ap class_sort p.0
sort_is text a b line p = ap class_sort p.0
sort_is text a b bracketed p = ap class_sort (byte_class text a 47 p.opens.slash (omega arith))
sort_is text a b mark p = ap (λ n. class_sort (class_at text n)) p.0 ∙ ap class_sort p.1.is
sort_is text a b hash_bang p = ap class_sort (byte_class text a 35 p.0.hash (omega arith))

-- where the class begins no layout, none begins
pub no_piece : (text : List ℕ) (a : ℕ) → class_sort (class_at text a) ≡ None → NoPiece text a
no_piece text a none s b p = let both : Some s ≡ None = sym (sort_is text a b s p) ∙ none in cc

-- a character ends at one place
char_below : (text : List ℕ) (a b c : ℕ) → IsChar text a b → IsChar text a c → b ≤ c
char_below text a b c p q = elim (cases_lt c b) [
  | inl lt ↦ absurd (q.ends (p.inner c q.some lt))
  | inr le ↦ le
]

pub char_once : (text : List ℕ) (a b c : ℕ) → IsChar text a b → IsChar text a c → b ≡ c
char_once text a b c p q = omega (arith, char_below text a b c p q, char_below text a c b q p)

newline_below : (text : List ℕ) (a b c : ℕ) → GoesToNewline text a b → GoesToNewline text a c → b ≤ c
newline_below text a b c p q = elim (cases_lt c b) [
  | inl lt ↦ elim q.stops [
    | inl end ↦ absurd (omega (arith, end, p.within))
    | inr newline ↦ absurd (p.none c q.from lt newline)
  ]
  | inr le ↦ le
]

pub newline_once : (text : List ℕ) (a b c : ℕ) → GoesToNewline text a b → GoesToNewline text a c → b ≡ c
newline_once text a b c p q = omega (arith, newline_below text a b c p q, newline_below text a c b q p)

bracketed_below : (text : List ℕ) (a b c : ℕ) → (p : IsBracketed text a b) (q : IsBracketed text a c) → p.close ≤ q.close
bracketed_below text a b c p q = elim (cases_lt q.close p.close) [
  | inl lt ↦ absurd (p.first q.close q.after lt q.closes)
  | inr le ↦ le
]

pub bracketed_once : (text : List ℕ) (a b c : ℕ) → IsBracketed text a b → IsBracketed text a c → b ≡ c
bracketed_once text a b c p q = omega (arith, bracketed_below text a b c p q, bracketed_below text a c b q p, p.ends, q.ends)

same_sort : (text : List ℕ) (a b c : ℕ) (s : Sort) → IsPiece text a b s → IsPiece text a c s → b ≡ c
same_sort text a b c white p q = char_once text a b c p.1 q.1
same_sort text a b c line p q = newline_once text a b c p.1 q.1
same_sort text a b c bracketed p q = bracketed_once text a b c p q
same_sort text a b c mark p q = char_once text 0 b c p.1.char q.1.char
same_sort text a b c hash_bang p q = newline_once text a b c p.1 q.1

-- at one place begins one piece of layout
pub piece_once : (text : List ℕ) (a b c : ℕ) (s u : Sort) → IsPiece text a b s → IsPiece text a c u → b ≡ c
piece_once text a b c s u p q =
    let both : Some s ≡ Some u = sym (sort_is text a b s p) ∙ sort_is text a c u q in
    let is : s ≡ u = cc in
    same_sort text a b c s p (subst (λ x. IsPiece text a c x) (sym is) q)

line_some : (text : List ℕ) (a b : ℕ) → GoesToNewline text a b → a < length text → get_or text a 0 ≢ 10 → a < b
line_some text a b p here ne = elim (cases_lt a b) [
  | inl lt ↦ lt
  | inr le ↦
      let is : b ≡ a = omega (arith, p.from) in
      elim p.stops [
        | inl end ↦ absurd (omega (arith, end))
        | inr newline ↦ absurd (ne (ap (λ n. get_or text n 0) (sym is) ∙ newline))
      ]
]

percent_no_newline : (text : List ℕ) (a : ℕ) → class_at text a ≡ Percent → get_or text a 0 ≢ 10
percent_no_newline text a is newline = let both : Percent ≡ White = sym is ∙ byte_class text a 10 newline (omega arith) in cc

-- a piece is not empty
pub piece_some : (text : List ℕ) (a b : ℕ) (s : Sort) → IsPiece text a b s → a < b
piece_some text a b white p = p.1.some
piece_some text a b line p =
    let here : a < length text = class_here text a (λ e. let both : Percent ≡ Other = sym p.0 ∙ e in cc) in
    line_some text a b p.1 here (percent_no_newline text a p.0)
piece_some text a b bracketed p = omega (arith, p.ends, p.after)
piece_some text a b mark p = omega (arith, p.0, p.1.char.some)
piece_some text a b hash_bang p =
    line_some text a b p.1 (here text a 35 p.0.hash (omega arith)) (λ e. byte_clash text a 35 10 p.0.hash e (λ n. omega (arith, n)))

-- and stands within the text
pub piece_within : (text : List ℕ) (a b : ℕ) (s : Sort) → IsPiece text a b s → b ≤ length text
piece_within text a b white p = p.1.within
piece_within text a b line p = p.1.within
piece_within text a b bracketed p = omega (arith, p.ends, here text (p.close + 1) 47 p.closes.slash (omega arith))
piece_within text a b mark p = p.1.char.within
piece_within text a b hash_bang p = p.1.within

-- no token begins where layout does
pub piece_no_token : (text : List ℕ) (a b e : ℕ) (s : Sort) (k : Kind) → IsPiece text a b s → Spells text a e k → ⊥
piece_no_token text a b e white k p t = by_this text a e k White p.0 t
piece_no_token text a b e line k p t = by_this text a e k Percent p.0 t
piece_no_token text a b e bracketed k p t =
    let by : SpellsBy text a e k Slash = by_this text a e k Slash (byte_class text a 47 p.opens.slash (omega arith)) t in
    by.1.no_comment p.opens
piece_no_token text a b e mark k p t = by_this text a e k OrderMark (ap (λ n. class_at text n) p.0 ∙ p.1.is) t
piece_no_token text a b e hash_bang k p t =
    let by : SpellsBy text a e k Graphic = by_this text a e k Graphic (byte_class text a 35 p.0.hash (omega arith)) t in
    by.1.no_hash_bang p.0

pub token_no_piece : (text : List ℕ) (a b : ℕ) (k : Kind) → Spells text a b k → NoPiece text a
token_no_piece text a b k t = λ s e p. piece_no_token text a e b s k p t

pieces_once : (text : List ℕ) (a b c : ℕ) (ss us : List Sort) → ArePieces text a ss b → NoPiece text b → ArePieces text a us c → NoPiece text c → b ≡ c
pieces_once text a b c [] [] p nb q nc = sym p ∙ q
pieces_once text a b c [] (u ∷ us) p nb (m, here, rest) nc = absurd (nb u m (subst (λ n. IsPiece text n m u) p here))
pieces_once text a b c (s ∷ ss) [] (m, here, rest) nb q nc = absurd (nc s m (subst (λ n. IsPiece text n m s) q here))
pieces_once text a b c (s ∷ ss) (u ∷ us) (m, p, ps) nb (n, q, qs) nc =
    pieces_once text m b c ss us ps nb (subst (λ x. ArePieces text x us c) (sym (piece_once text a m n s u p q)) qs) nc

-- layout that leads to where no layout begins ends at one place
pub layout_once : (text : List ℕ) (a b c : ℕ) → IsLayout text a b → NoPiece text b → IsLayout text a c → NoPiece text c → b ≡ c
layout_once text a b c p nb q nc = pieces_once text a b c p.pieces q.pieces p.are nb q.are nc

pieces_more : (text : List ℕ) (a b c : ℕ) (ss : List Sort) (s : Sort) → ArePieces text a ss b → IsPiece text b c s → ArePieces text a (ss ++ s ∷ []) c
pieces_more text a b c [] s p here = (c, subst (λ n. IsPiece text n c s) (sym p) here, refl)
pieces_more text a b c (x ∷ xs) s (m, p, ps) here = (m, p, pieces_more text m b c xs s ps here)

-- one piece more
pub layout_more : (text : List ℕ) (a b c : ℕ) (s : Sort) → IsLayout text a b → IsPiece text b c s → IsLayout text a c
layout_more text a b c s p here = record { pieces = p.pieces ++ s ∷ []; are = pieces_more text a b c p.pieces s p.are here }

pieces_from : (text : List ℕ) (a b : ℕ) (ss : List Sort) → ArePieces text a ss b → a ≤ b
pieces_from text a b [] p = omega (arith, p)
pieces_from text a b (s ∷ ss) (m, p, ps) = omega (arith, piece_some text a m s p, pieces_from text m b ss ps)

pub layout_from : (text : List ℕ) (a b : ℕ) → IsLayout text a b → a ≤ b
layout_from text a b p = pieces_from text a b p.pieces p.are
