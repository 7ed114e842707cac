-- The parts of a quoted item.
use Rattle.std.proofs.Common.{◌≡◌, ◌≢◌, ℕ, zero, suc, ◌+◌, ◌-◌, ◌<◌, ◌≤◌, List, [], ◌∷◌, ◌++◌, length, Option, get_or, ap, sym, ◌∙◌, subst, refl, inl, inr, arith}
use Rattle.std.proofs.lemmas.Bool.{cases_lt, cases_eq}
use Rattle.std.proofs.lemmas.List.{get_or_past}
use Rattle.prolog_tokens.specs.declared.escapes.Mark.{Mark}
use Rattle.prolog_tokens.specs.declared.escapes.Mark.TheVariants.{Letter, Octal, Hex, Newline, Nothing}
use Rattle.prolog_tokens.specs.Escapes.{mark_of, IsCoded, EscapeBy, IsEscape}
use Rattle.prolog_tokens.specs.Quoted.{Part, plain, twice, escape, PartBy, IsPart, AreParts, PartsLead, NoPart, IsQuote}
use Rattle.prolog_tokens.proofs.Classes.{here}

-- a quote is neither a backslash nor what is read past the end of the text
pub record IsSignQuote (q : ℕ) : Type 0 where
  pub some : 0 < q
  pub ascii : q < 128
  pub no_backslash : q ≢ 92

pub quote_sign : (q : ℕ) → IsQuote q → IsSignQuote q
quote_sign q (inl is) = record { some = omega arith; ascii = omega arith; no_backslash = λ e. omega arith }
quote_sign q (inr (inl is)) = record { some = omega arith; ascii = omega arith; no_backslash = λ e. omega arith }
quote_sign q (inr (inr is)) = record { some = omega arith; ascii = omega arith; no_backslash = λ e. omega arith }

-- where an escape ends
pub record IsAfter (text : List ℕ) (a b : ℕ) : Type 0 where
  pub after : a < b
  pub within : b ≤ length text

coded_after : (base : ℕ) (text : List ℕ) (a : ℕ) (c : Option ℕ) (b : ℕ) → IsCoded base text a c b → IsAfter text a b
coded_after base text a c b coded = record {
  after = omega (arith, coded.ends, coded.writes.digits.some);
  within = omega (arith, coded.ends, here text coded.close 92 coded.backslash (omega arith));
}

escape_by_after : (text : List ℕ) (a : ℕ) (c : Option ℕ) (b : ℕ) (m : Mark) → (m ≢ Nothing → a + 1 < length text) → EscapeBy text a c b m → IsAfter text a b
escape_by_after text a c b (Letter v) next (is, ends) = let lt : a + 1 < length text = next (λ e. cc) in record { after = omega (arith, ends); within = omega (arith, ends) }
escape_by_after text a c b Newline next (is, ends) = let lt : a + 1 < length text = next (λ e. cc) in record { after = omega (arith, ends); within = omega (arith, ends) }
escape_by_after text a c b Octal next coded =
    let there : IsAfter text (a + 1) b = coded_after 8 text (a + 1) c b coded in record { after = omega (arith, there.after); within = there.within }
escape_by_after text a c b Hex next coded =
    let there : IsAfter text (a + 2) b = coded_after 16 text (a + 2) c b coded in record { after = omega (arith, there.after); within = there.within }
escape_by_after text a c b Nothing next none = absurd none

mark_here : (text : List ℕ) (a : ℕ) → mark_of (get_or text a 0) ≢ Nothing → a < length text
mark_here text a ne = elim (cases_lt a (length text)) [
  | inl lt ↦ lt
  | inr le ↦ absurd (ne (ap mark_of (get_or_past text a 0 le)))
]

pub escape_after : (text : List ℕ) (a : ℕ) (c : Option ℕ) (b : ℕ) → IsEscape text a c b → IsAfter text a b
escape_after text a c b e = escape_by_after text a c b (mark_of (get_or text (a + 1) 0)) (mark_here text (a + 1)) e.by

part_by_after : (text : List ℕ) (q a : ℕ) (p : Part) (b : ℕ) → PartBy text q a b p → a < b
part_by_after text q a (plain x) b by = omega (arith, by.3)
part_by_after text q a twice b by = omega (arith, by.2)
part_by_after text q a (escape c) b by = (escape_after text a c b by).after

pub part_after : (text : List ℕ) (q a : ℕ) (p : Part) (b : ℕ) → IsPart text q a p b → a < b
part_after text q a p b part = part_by_after text q a p b part.by

parts_from : (text : List ℕ) (q a : ℕ) (ps : List Part) (b : ℕ) → AreParts text q a ps b → a ≤ b
parts_from text q a [] b is = omega (arith, is)
parts_from text q a (p ∷ ps) b (m, first, rest) = omega (arith, part_after text q a p m first, parts_from text q m ps b rest)

pub lead_from : (text : List ℕ) (q a b : ℕ) → PartsLead text q a b → a ≤ b
lead_from text q a b lead = parts_from text q a lead.parts b lead.are

-- no part
pub lead_none : (text : List ℕ) (q a : ℕ) → PartsLead text q a a
lead_none text q a = record { parts = []; are = refl }

parts_more : (text : List ℕ) (q a : ℕ) (ps : List Part) (b : ℕ) (p : Part) (c : ℕ) → AreParts text q a ps b → IsPart text q b p c → AreParts text q a (ps ++ p ∷ []) c
parts_more text q a [] b p c is part = (c, subst (λ n. IsPart text q n p c) (sym is) part, refl)
parts_more text q a (o ∷ ps) b p c (m, first, rest) part = (m, first, parts_more text q m ps b p c rest part)

-- one part more
pub lead_more : (text : List ℕ) (q a b : ℕ) (p : Part) (c : ℕ) → PartsLead text q a b → IsPart text q b p c → PartsLead text q a c
lead_more text q a b p c lead part = record { parts = lead.parts ++ p ∷ []; are = parts_more text q a lead.parts b p c lead.are part }

-- bytes from one place up to another that stand for themselves
pub record ArePlain (text : List ℕ) (q a b : ℕ) : Type 0 where
  pub from : a ≤ b
  pub within : b ≤ length text
  pub no_quote : (k : ℕ) → a ≤ k → k < b → get_or text k 0 ≢ q
  pub no_backslash : (k : ℕ) → a ≤ k → k < b → get_or text k 0 ≢ 92

plain_more : (text : List ℕ) (q a b count : ℕ) → count + b ≤ length text → ((k : ℕ) → b ≤ k → k < count + b → get_or text k 0 ≢ q)
    → ((k : ℕ) → b ≤ k → k < count + b → get_or text k 0 ≢ 92) → PartsLead text q a b → PartsLead text q a (count + b)
plain_more text q a b zero within no_quote no_backslash lead = let is : b ≡ 0 + b = omega arith in subst (PartsLead text q a) is lead
plain_more text q a b (suc count) within no_quote no_backslash lead =
    let before : PartsLead text q a (count + b) =
    plain_more text q a b count (omega arith) (λ k from below. no_quote k from (omega arith)) (λ k from below. no_backslash k from (omega arith)) lead in
    let part : IsPart text q (count + b) (plain (get_or text (count + b) 0)) (suc count + b) =
    record { within = within; by = (refl, no_quote (count + b) (omega arith) (omega arith), no_backslash (count + b) (omega arith) (omega arith), omega arith) } in
    lead_more text q a (count + b) (plain (get_or text (count + b) 0)) (suc count + b) before part

-- bytes more that stand for themselves
pub lead_plain : (text : List ℕ) (q a b c : ℕ) → PartsLead text q a b → ArePlain text q b c → PartsLead text q a c
lead_plain text q a b c lead are =
    let is : c - b + b ≡ c = omega (arith, are.from) in
    let more : PartsLead text q a (c - b + b) =
    plain_more text q a b (c - b) (omega (arith, are.within, are.from)) (λ k from below. are.no_quote k from (omega arith)) (λ k from below. are.no_backslash k from (omega arith)) lead in
    subst (PartsLead text q a) is more

-- no part begins at the end of the text,
pub no_part_past : (text : List ℕ) (q : ℕ) → NoPart text q (length text)
no_part_past text q p b part = omega (arith, part_after text q (length text) p b part, part.within)

-- at a backslash without an escape,
pub no_part_backslash : (text : List ℕ) (q a : ℕ) → IsQuote q → get_or text a 0 ≡ 92 → ((c : Option ℕ) (b : ℕ) → IsEscape text a c b → ⊥) → NoPart text q a
no_part_backslash text q a quote is none (plain x) b part = part.by.2 (sym part.by.0 ∙ is)
no_part_backslash text q a quote is none twice b part = (quote_sign q quote).no_backslash (sym part.by.0 ∙ is)
no_part_backslash text q a quote is none (escape c) b part = none c b part.by

-- nor at a quote that stands alone
pub no_part_quote : (text : List ℕ) (q a : ℕ) → IsQuote q → get_or text a 0 ≡ q → get_or text (a + 1) 0 ≢ q → NoPart text q a
no_part_quote text q a quote is alone (plain x) b part = part.by.1 (sym part.by.0 ∙ is)
no_part_quote text q a quote is alone twice b part = alone part.by.1
no_part_quote text q a quote is alone (escape c) b part = (quote_sign q quote).no_backslash (sym is ∙ part.by.backslash)

-- where no part begins within the text, a quote stands alone or a backslash has no escape
pub quote_alone : (text : List ℕ) (q a : ℕ) → IsQuote q → get_or text a 0 ≡ q → NoPart text q a → get_or text (a + 1) 0 ≢ q
quote_alone text q a quote is none second =
    let lt : a + 1 < length text = here text (a + 1) q second (quote_sign q quote).some in
    none twice (a + 2) (record { within = omega arith; by = (is, second, refl) })

pub backslash_there : (text : List ℕ) (q a : ℕ) → a < length text → get_or text a 0 ≢ q → NoPart text q a → get_or text a 0 ≡ 92
backslash_there text q a within ne none = elim (cases_eq (get_or text a 0) 92) [
  | inl is ↦ is
  | inr differ ↦ absurd (none (plain (get_or text a 0)) (a + 1) (record { within = omega arith; by = (refl, ne, differ, refl) }))
]
