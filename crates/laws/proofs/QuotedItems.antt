-- How a quoted item ends: behind its closing quote, not at all, or with a bad escape.
use Rattle.std.proofs.Common.{◌≡◌, ℕ, zero, suc, ◌+◌, ◌<◌, ◌≤◌, ◌⊎◌, List, length, get_or, subst, refl, inl, inr, arith}
use Rattle.std.proofs.lemmas.Bool.{cases_eq}
use Rattle.prolog_tokens.specs.Quoted.{Part, plain, twice, escape, IsPart, PartsLead, NoPart, IsQuote, IsQuoted, IsBadEscape, IsOpenQuote}
use Rattle.prolog_tokens.proofs.Classes.{here}
use Rattle.prolog_tokens.proofs.Parts.{quote_sign, escape_after, part_after, lead_none, lead_more, no_part_backslash, no_part_quote, quote_alone, backslash_there}
use Rattle.laws.proofs.Escapes.{escape_or}

abbrev HasPart : List ℕ → ℕ → ℕ → Type 0
HasPart text q a = (p : Part) × (b : ℕ) × IsPart text q a p b

backslash_part : (text : List ℕ) (q a : ℕ) → IsQuote q → get_or text a 0 ≡ 92 → HasPart text q a ⊎ NoPart text q a
backslash_part text q a quote backslash = elim (escape_or text a backslash) [
  | inl (c, b, x) ↦ inl (escape c, b, record { within = (escape_after text a c b x).within; by = x })
  | inr none ↦ inr (no_part_backslash text q a quote backslash none)
]

quote_part : (text : List ℕ) (q a : ℕ) → IsQuote q → get_or text a 0 ≡ q → HasPart text q a ⊎ NoPart text q a
quote_part text q a quote is = elim (cases_eq (get_or text (a + 1) 0) q) [
  | inl second ↦
      let lt : a + 1 < length text = here text (a + 1) q second (quote_sign q quote).some in
      inl (twice, a + 2, record { within = omega (arith, lt); by = (is, second, refl) })
  | inr alone ↦ inr (no_part_quote text q a quote is alone)
]

part_or : (text : List ℕ) (q a : ℕ) → IsQuote q → a < length text → HasPart text q a ⊎ NoPart text q a
part_or text q a quote within = elim (cases_eq (get_or text a 0) 92) [
  | inl backslash ↦ backslash_part text q a quote backslash
  | inr no_backslash ↦ elim (cases_eq (get_or text a 0) q) [
    | inl is ↦ quote_part text q a quote is
    | inr ne ↦ inl (plain (get_or text a 0), a + 1, record { within = omega (arith, within); by = (refl, ne, no_backslash, refl) })
  ]
]

-- an item that begins with a quote
record Begins (text : List ℕ) (q a : ℕ) : Type 0 where
  quote : IsQuote q
  within : a < length text
  opens : get_or text a 0 ≡ q

abbrev pub QuotedEnds : List ℕ → ℕ → ℕ → Type 0
QuotedEnds text q a = ((b : ℕ) × IsQuoted text q a b) ⊎ (IsOpenQuote text q a ⊎ ((p : ℕ) × IsBadEscape text q a p))

lead_open : (text : List ℕ) (q a : ℕ) → Begins text q a → PartsLead text q (a + 1) (length text) → QuotedEnds text q a
lead_open text q a begins lead = inr (inl (record { within = begins.within; opens = begins.opens; lead = lead }))

lead_end : (text : List ℕ) (q a at : ℕ) → Begins text q a → at < length text → PartsLead text q (a + 1) at → NoPart text q at → QuotedEnds text q a
lead_end text q a at begins within lead none = elim (cases_eq (get_or text at 0) q) [
  | inl is ↦ inl (
    at + 1,
    record { opens = begins.opens; close = at; lead = lead; closes = is; alone = quote_alone text q at begins.quote is none; ends = refl },
  )
  | inr ne ↦ inr (inr (at, record { opens = begins.opens; lead = lead; backslash = backslash_there text q at within ne none; none = none }))
]

parts_end : (text : List ℕ) (q a : ℕ) → Begins text q a → (count at : ℕ) → at ≤ length text → length text ≤ at + count → PartsLead text q (a + 1) at → QuotedEnds text q a
parts_end text q a begins zero at within left lead =
    let is : at ≡ length text = omega (arith, within, left) in
    lead_open text q a begins (subst (PartsLead text q (a + 1)) is lead)
parts_end text q a begins (suc count) at within left lead = elim (cases_eq at (length text)) [
  | inl is ↦ lead_open text q a begins (subst (PartsLead text q (a + 1)) is lead)
  | inr ne ↦ elim (part_or text q at begins.quote (omega (arith, within, ne))) [
    | inl (p, b, part) ↦ parts_end text q a begins count b part.within (omega (arith, left, part_after text q at p b part)) (lead_more text q (a + 1) at p b lead part)
    | inr none ↦ lead_end text q a at begins (omega (arith, within, ne)) lead none
  ]
]

-- an item ends in one of these ways
pub quoted_end : (text : List ℕ) (q a : ℕ) → IsQuote q → a < length text → get_or text a 0 ≡ q → QuotedEnds text q a
quoted_end text q a quote within opens =
    parts_end text q a (record { quote = quote; within = within; opens = opens }) (length text) (a + 1) (omega (arith, within)) (omega arith) (lead_none text q (a + 1))
