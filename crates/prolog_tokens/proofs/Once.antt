-- The parts of a quoted item are one list, and it ends in one way.
use Rattle.std.proofs.Common.{◌≡◌, ◌≢◌, ℕ, ◌+◌, ◌<◌, ◌≤◌, List, [], ◌∷◌, length, Option, Some, get_or, ap, sym, ◌∙◌, subst, refl, inl, inr, arith}
use Rattle.std.specs.Char.{digit_value}
use Rattle.std.proofs.lemmas.Bool.{cases_lt}
use Rattle.prolog_tokens.specs.declared.escapes.Mark.{Mark}
use Rattle.prolog_tokens.specs.declared.escapes.Mark.TheVariants.{Letter, Octal, Hex, Newline, Nothing}
use Rattle.prolog_tokens.specs.Digits.{IsDigits, number_at}
use Rattle.prolog_tokens.specs.Escapes.{mark_of, IsCoded, EscapeBy, IsEscape}
use Rattle.prolog_tokens.specs.Quoted.{Part, plain, twice, escape, IsPart, AreParts, NoPart, IsQuote, IsQuoted, IsBadEscape, IsOpenQuote}
use Rattle.prolog_tokens.proofs.Classes.{here}
use Rattle.prolog_tokens.proofs.Parts.{quote_sign, lead_from, no_part_past, no_part_quote}

-- two bytes cannot stand at one place
pub byte_clash : (text : List ℕ) (a b c : ℕ) → get_or text a 0 ≡ b → get_or text a 0 ≡ c → b ≢ c → ⊥
byte_clash text a b c is is' ne = ne (sym is ∙ is')

-- a byte that is no digit of the base doesn't stand among digits of it
pub among_digits : (base : ℕ) (text : List ℕ) (a b k v : ℕ) → IsDigits base text a b → a ≤ k → k < b → get_or text k 0 ≡ v → base ≤ digit_value v → ⊥
among_digits base text a b k v d from below is none =
    let value : digit_value (get_or text k 0) ≡ digit_value v = ap digit_value is in
    omega (arith, d.digits k from below, value)

-- two spans from one place, with what each is, end together and are the same
pub record SameEnd {A : Type 0} (x y : A) (b e : ℕ) : Type 0 where
  pub what : x ≡ y
  pub ends : b ≡ e

coded_close : (base : ℕ) (text : List ℕ) (a : ℕ) (c d : Option ℕ) (b e : ℕ) → base ≤ 36 → (x : IsCoded base text a c b) (y : IsCoded base text a d e) → x.close ≤ y.close
coded_close base text a c d b e small x y = elim (cases_lt y.close x.close) [
  | inl lt ↦ absurd (among_digits base text a x.close y.close 92 x.writes.digits (omega (arith, y.writes.digits.some)) lt y.backslash small)
  | inr le ↦ le
]

-- the number of a character is one, and ends at one place
pub coded_once : (base : ℕ) (text : List ℕ) (a : ℕ) (c d : Option ℕ) (b e : ℕ) → base ≤ 36 → IsCoded base text a c b → IsCoded base text a d e → SameEnd c d b e
coded_once base text a c d b e small x y =
    let below : x.close ≤ y.close = coded_close base text a c d b e small x y in
    let above : y.close ≤ x.close = coded_close base text a d c e b small y x in
    let count : x.writes.count ≡ y.writes.count = omega (arith, x.writes.ends, y.writes.ends) in
    let number : x.number ≡ y.number = x.writes.is ∙ ap (λ n. number_at base text a n) count ∙ sym y.writes.is in
    record { what = x.is ∙ ap (λ n. Some n) number ∙ sym y.is; ends = omega (arith, x.ends, y.ends) }

by_once : (text : List ℕ) (a : ℕ) (c d : Option ℕ) (b e : ℕ) (mark : Mark) → EscapeBy text a c b mark → EscapeBy text a d e mark → SameEnd c d b e
by_once text a c d b e (Letter v) x y = record { what = x.0 ∙ sym y.0; ends = x.1 ∙ sym y.1 }
by_once text a c d b e Newline x y = record { what = x.0 ∙ sym y.0; ends = x.1 ∙ sym y.1 }
by_once text a c d b e Octal x y = coded_once 8 text (a + 1) c d b e (omega arith) x y
by_once text a c d b e Hex x y = coded_once 16 text (a + 2) c d b e (omega arith) x y
by_once text a c d b e Nothing x y = absurd x

pub escape_once : (text : List ℕ) (a : ℕ) (c d : Option ℕ) (b e : ℕ) → IsEscape text a c b → IsEscape text a d e → SameEnd c d b e
escape_once text a c d b e x y = by_once text a c d b e (mark_of (get_or text (a + 1) 0)) x.by y.by

-- at one place stands one part
pub part_once : (text : List ℕ) (q a : ℕ) (p r : Part) (b e : ℕ) → q ≢ 92 → IsPart text q a p b → IsPart text q a r e → SameEnd p r b e
part_once text q a (plain x) (plain y) b e ne s t = record { what = ap (λ n. plain n) (sym s.by.0 ∙ t.by.0); ends = s.by.3 ∙ sym t.by.3 }
part_once text q a (plain x) twice b e ne s t = absurd (s.by.1 (sym s.by.0 ∙ t.by.0))
part_once text q a (plain x) (escape d) b e ne s t = absurd (s.by.2 (sym s.by.0 ∙ t.by.backslash))
part_once text q a twice (plain y) b e ne s t = absurd (t.by.1 (sym t.by.0 ∙ s.by.0))
part_once text q a twice twice b e ne s t = record { what = refl; ends = s.by.2 ∙ sym t.by.2 }
part_once text q a twice (escape d) b e ne s t = absurd (ne (sym s.by.0 ∙ t.by.backslash))
part_once text q a (escape c) (plain y) b e ne s t = absurd (t.by.2 (sym t.by.0 ∙ s.by.backslash))
part_once text q a (escape c) twice b e ne s t = absurd (ne (sym t.by.0 ∙ s.by.backslash))
part_once text q a (escape c) (escape d) b e ne s t =
    let same : SameEnd c d b e = escape_once text a c d b e s.by t.by in
    record { what = ap (λ x. escape x) same.what; ends = same.ends }

-- parts that lead to places where no part stands are the same
pub parts_once : (text : List ℕ) (q a : ℕ) (ps rs : List Part) (b e : ℕ) → q ≢ 92 → AreParts text q a ps b → NoPart text q b → AreParts text q a rs e → NoPart text q e → SameEnd ps rs b e
parts_once text q a [] [] b e ne s nb t nc = record { what = refl; ends = sym s ∙ t }
parts_once text q a [] (r ∷ rs) b e ne s nb (m, here, rest) nc = absurd (nb r m (subst (λ n. IsPart text q n r m) s here))
parts_once text q a (p ∷ ps) [] b e ne (m, here, rest) nb t nc = absurd (nc p m (subst (λ n. IsPart text q n p m) t here))
parts_once text q a (p ∷ ps) (r ∷ rs) b e ne (m, here, rest) nb (n, here', rest') nc =
    let same : SameEnd p r m n = part_once text q a p r m n ne here here' in
    let more : SameEnd ps rs b e = parts_once text q m ps rs b e ne rest nb (subst (λ x. AreParts text q x rs e) (sym same.ends) rest') nc in
    record { what = let heads : p ∷ ps ≡ r ∷ rs = ap (λ x. x ∷ ps) same.what ∙ ap (λ xs. r ∷ xs) more.what in heads; ends = more.ends }

-- a quoted item is closed at one place
pub closed_once : (text : List ℕ) (q a b e : ℕ) → IsQuote q → IsQuoted text q a b → IsQuoted text q a e → b ≡ e
closed_once text q a b e quote x y =
    let ne : q ≢ 92 = (quote_sign q quote).no_backslash in
    let same : SameEnd x.lead.parts y.lead.parts x.close y.close =
    parts_once text q (a + 1) x.lead.parts y.lead.parts x.close y.close ne x.lead.are (no_part_quote text q x.close quote x.closes x.alone) y.lead.are (no_part_quote text q y.close quote y.closes y.alone) in
    omega (arith, same.ends, x.ends, y.ends)

-- one that is closed is not open
pub closed_not_open : (text : List ℕ) (q a b : ℕ) → IsQuote q → IsQuoted text q a b → IsOpenQuote text q a → ⊥
closed_not_open text q a b quote x y =
    let ne : q ≢ 92 = (quote_sign q quote).no_backslash in
    let same : SameEnd x.lead.parts y.lead.parts x.close (length text) =
    parts_once text q (a + 1) x.lead.parts y.lead.parts x.close (length text) ne x.lead.are (no_part_quote text q x.close quote x.closes x.alone) y.lead.are (no_part_past text q) in
    omega (arith, same.ends, here text x.close q x.closes (quote_sign q quote).some)

-- and has no bad escape
pub closed_not_bad : (text : List ℕ) (q a b p : ℕ) → IsQuote q → IsQuoted text q a b → IsBadEscape text q a p → ⊥
closed_not_bad text q a b p quote x y =
    let ne : q ≢ 92 = (quote_sign q quote).no_backslash in
    let same : SameEnd x.lead.parts y.lead.parts x.close p =
    parts_once text q (a + 1) x.lead.parts y.lead.parts x.close p ne x.lead.are (no_part_quote text q x.close quote x.closes x.alone) y.lead.are y.none in
    ne (sym x.closes ∙ ap (λ n. get_or text n 0) same.ends ∙ y.backslash)

-- the first bad escape is one
pub bad_once : (text : List ℕ) (q a p r : ℕ) → IsQuote q → IsBadEscape text q a p → IsBadEscape text q a r → p ≡ r
bad_once text q a p r quote x y =
    let same : SameEnd x.lead.parts y.lead.parts p r =
    parts_once text q (a + 1) x.lead.parts y.lead.parts p r ((quote_sign q quote).no_backslash) x.lead.are x.none y.lead.are y.none in
    same.ends

pub bad_not_open : (text : List ℕ) (q a p : ℕ) → IsQuote q → IsBadEscape text q a p → IsOpenQuote text q a → ⊥
bad_not_open text q a p quote x y =
    let same : SameEnd x.lead.parts y.lead.parts p (length text) =
    parts_once text q (a + 1) x.lead.parts y.lead.parts p (length text) ((quote_sign q quote).no_backslash) x.lead.are x.none y.lead.are (no_part_past text q) in
    omega (arith, same.ends, here text p 92 x.backslash (omega arith))

-- what is closed stands within the text
pub closed_some : (text : List ℕ) (q a b : ℕ) → IsQuoted text q a b → a < b
closed_some text q a b x = omega (arith, x.ends, lead_from text q (a + 1) x.close x.lead)

pub closed_within : (text : List ℕ) (q a b : ℕ) → IsQuote q → IsQuoted text q a b → b ≤ length text
closed_within text q a b quote x = omega (arith, x.ends, here text x.close q x.closes (quote_sign q quote).some)
