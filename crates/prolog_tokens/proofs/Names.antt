-- Where names are cut out of a text, and how the text of a quoted item is put together.
use Rattle.std.proofs.Common.{◌≡◌, ◌≢◌, ℕ, zero, suc, ◌+◌, ◌-◌, ◌<◌, ◌≤◌, ◌⊎◌, List, [], ◌∷◌, ◌++◌, length, Option, Some, None, take, drop, slice_range, get_or, drop-cons, ap, sym, ◌∙◌, subst, refl, inl, inr, arith}
use Rattle.std.specs.Char.{encode_utf8}
use Rattle.std.specs.List.{flat_map}
use Rattle.std.specs.Str.{IsUtf8, IsCharBoundary}
use Rattle.std.proofs.lemmas.Grind.{flat_map-append}
use Rattle.std.proofs.lemmas.List.{flat_map_more}
use Rattle.std.proofs.lemmas.List.Concat.{flat_map-cons}
use Rattle.std.proofs.lemmas.Str.{encode_ascii}
use Rattle.std.specs.Option.{MatchOption}
use Rattle.prolog_tokens.specs.declared.escapes.Escape.{Escape}
use Rattle.prolog_tokens.specs.declared.chars.Class.TheVariants.{Inner}
use Rattle.prolog_tokens.specs.declared.token.Kind.{Kind}
use Rattle.prolog_tokens.specs.Chars.{class_at}
use Rattle.prolog_tokens.specs.Escapes.{IsEscape}
use Rattle.prolog_tokens.specs.Quoted.{Part, plain, twice, escape, IsPart, AreParts, NoPart, IsQuote, IsQuoted}
use Rattle.prolog_tokens.specs.Spelling.{Spells}
use Rattle.prolog_tokens.specs.Values.{part_bytes, IsQuotedText, IsMeant}
use Rattle.prolog_tokens.proofs.Classes.{here, IsInnerByte, inner_byte, begins_behind, may_cut}
use Rattle.prolog_tokens.proofs.Parts.{ArePlain, quote_sign, escape_after, no_part_backslash, no_part_quote}
use Rattle.prolog_tokens.proofs.Boundaries.{short_boundary, escape_boundary, token_boundary}
use Rattle.prolog_tokens.proofs.Families.{by_this}
use Rattle.prolog_tokens.proofs.Once.{SameEnd, parts_once}
use Rattle.prolog_tokens.proofs.OneToken.{token_some, token_within}

-- a character begins where a token does
pub token_begins : (text : List ℕ) (a b : ℕ) (k : Kind) → Spells text a b k → class_at text a ≢ Inner
token_begins text a b k s = λ is. by_this text a b k Inner is s

pub token_from : (text : List ℕ) (a b : ℕ) (k : Kind) → Spells text a b k → IsCharBoundary text a
token_from text a b k s = may_cut text a (omega (arith, token_some text a b k s, token_within text a b k s)) (token_begins text a b k s)

-- and where it ends
pub token_until : (text : List ℕ) (a b : ℕ) (k : Kind) → IsUtf8 text → Spells text a b k → IsCharBoundary text b
token_until text a b k utf8 s = may_cut text b (token_within text a b k s) (token_boundary text a b k utf8 s)

-- the bytes of a character that may be none
abbrev pub character_bytes : Option ℕ → List ℕ
character_bytes None = []
character_bytes (Some c) = encode_utf8 c

-- the parts of an item from behind its quote up to a place, and what they stand for
pub record IsUnquoted (text : List ℕ) (q start at : ℕ) (name : List ℕ) : Type 0 where
  pub within : at ≤ length text
  pub begins : class_at text at ≢ Inner
  pub parts : List Part
  pub are : AreParts text q (start + 1) parts at
  pub is : name ≡ flat_map (part_bytes q) parts

pub parts_append : (text : List ℕ) (q a : ℕ) (ps : List Part) (b : ℕ) (rs : List Part) (c : ℕ) → AreParts text q a ps b → AreParts text q b rs c → AreParts text q a (ps ++ rs) c
parts_append text q a [] b rs c is more = subst (λ n. AreParts text q n rs c) (sym is) more
parts_append text q a (p ∷ ps) b rs c (m, here, rest) more = (m, here, parts_append text q m ps b rs c rest more)

-- bytes as parts that stand for themselves
abbrev run : List ℕ → List Part
run [] = []
run (x ∷ xs) = plain x ∷ run xs

run_bytes : (q : ℕ) (xs : List ℕ) → flat_map (part_bytes q) (run xs) ≡ xs
run_bytes q [] = refl
run_bytes q (x ∷ xs) = flat_map-cons (part_bytes q) (plain x) (run xs) ∙ ap (λ ys. x ∷ ys) (run_bytes q xs)

run_are : (text : List ℕ) (q a n : ℕ) → a + n ≤ length text → ((k : ℕ) → a ≤ k → k < a + n → get_or text k 0 ≢ q) → ((k : ℕ) → a ≤ k → k < a + n → get_or text k 0 ≢ 92)
    → AreParts text q a (run (take n (drop a text))) (a + n)
run_are text q a zero within no_quote no_backslash = omega arith
run_are text q a (suc n) within no_quote no_backslash =
    let lt : a < length text = omega arith in
    let part : IsPart text q a (plain (get_or text a 0)) (suc a) =
    record { within = omega arith; by = (refl, no_quote a (omega arith) (omega arith), no_backslash a (omega arith) (omega arith), omega arith) } in
    let rest : AreParts text q (suc a) (run (take n (drop (suc a) text))) (suc a + n) =
    run_are text q (suc a) n (omega arith) (λ k from below. no_quote k (omega arith) (omega arith)) (λ k from below. no_backslash k (omega arith) (omega arith)) in
    let ends : suc a + n ≡ a + suc n = omega arith in
    subst (λ xs. AreParts text q a (run (take (suc n) xs)) (a + suc n)) (sym (drop-cons text a 0 lt)) (suc a, part, subst (AreParts text q (suc a) (run (take n (drop (suc a) text)))) ends rest)

-- nothing is read yet
pub unquoted_none : (text : List ℕ) (q start : ℕ) → IsUtf8 text → q < 128 → 0 < q → get_or text start 0 ≡ q → IsUnquoted text q start (start + 1) []
unquoted_none text q start utf8 small some opens = record {
  within = let lt : start < length text = here text start q opens some in omega arith;
  begins = begins_behind text start utf8 (omega (arith, opens));
  parts = [];
  are = refl;
  is = refl;
}

unquoted_plain : (text : List ℕ) (q start at next : ℕ) (name : List ℕ) → IsUnquoted text q start at name → ArePlain text q at next → class_at text next ≢ Inner
    → IsUnquoted text q start next (name ++ slice_range text at next)
unquoted_plain text q start at next name u more begins =
    let ends : at + (next - at) ≡ next = omega (arith, more.from) in
    let are : AreParts text q at (run (slice_range text at next)) (at + (next - at)) =
    run_are text q at (next - at) (omega (arith, more.within, ends)) (λ k from below. more.no_quote k from (omega (arith, ends))) (λ k from below. more.no_backslash k from (omega (arith, ends))) in
    record {
      within = more.within;
      begins = begins;
      parts = u.parts ++ run (slice_range text at next);
      are = parts_append text q (start + 1) u.parts at (run (slice_range text at next)) next u.are (subst (AreParts text q at (run (slice_range text at next))) ends are);
      is = ap (λ xs. xs ++ slice_range text at next) u.is
          ∙ ap (λ ys. flat_map (part_bytes q) u.parts ++ ys) (sym (run_bytes q (slice_range text at next)))
          ∙ sym (flat_map-append (part_bytes q) u.parts (run (slice_range text at next)));
    }

unquoted_part : (text : List ℕ) (q start at end : ℕ) (name : List ℕ) (p : Part) → IsUnquoted text q start at name → IsPart text q at p end → class_at text end ≢ Inner
    → IsUnquoted text q start end (name ++ part_bytes q p)
unquoted_part text q start at end name p u part begins = record {
  within = part.within;
  begins = begins;
  parts = u.parts ++ p ∷ [];
  are = parts_append text q (start + 1) u.parts at (p ∷ []) end u.are (end, part, refl);
  is = ap (λ xs. xs ++ part_bytes q p) u.is ∙ flat_map_more (part_bytes q) [] u.parts p;
}

escape_bytes : (q : ℕ) (c : Option ℕ) → part_bytes q (escape c) ≡ character_bytes c
escape_bytes q None = refl
escape_bytes q (Some c) = refl

meant_begins : (text : List ℕ) (q at : ℕ) (c : Option ℕ) (end : ℕ) → IsUtf8 text → q < 128 → IsMeant text q at c end → class_at text end ≢ Inner
meant_begins text q at c end utf8 small (inl (is, part)) = short_boundary text at end utf8 (omega (arith, part.by.1)) part.by.2
meant_begins text q at c end utf8 small (inr part) = escape_boundary text at c end utf8 part.by

meant_more : (text : List ℕ) (q start at end : ℕ) (name : List ℕ) (c : Option ℕ) → IsUtf8 text → q < 128 → IsUnquoted text q start at name → IsMeant text q at c end
    → IsUnquoted text q start end (name ++ character_bytes c)
meant_more text q start at end name c utf8 small u (inl (is, part)) =
    let more : IsUnquoted text q start end (name ++ part_bytes q twice) =
    unquoted_part text q start at end name twice u part (meant_begins text q at c end utf8 small (inl (is, part))) in
    let bytes : part_bytes q twice ≡ character_bytes c = sym (encode_ascii q small) ∙ ap character_bytes (sym is) in
    subst (λ xs. IsUnquoted text q start end (name ++ xs)) bytes more
meant_more text q start at end name c utf8 small u (inr part) =
    let more : IsUnquoted text q start end (name ++ part_bytes q (escape c)) =
    unquoted_part text q start at end name (escape c) u part (meant_begins text q at c end utf8 small (inr part)) in
    subst (λ xs. IsUnquoted text q start end (name ++ xs)) (escape_bytes q c) more

-- a part more that means a character or none
pub unquoted_meant : (text : List ℕ) (q start at end : ℕ) (name after : List ℕ) (c : Option ℕ) → IsUtf8 text → IsQuote q → IsUnquoted text q start at name → IsMeant text q at c end
    → after ≡ name ++ character_bytes c → IsUnquoted text q start end after
unquoted_meant text q start at end name after c utf8 quote u meant is = rw is (meant_more text q start at end name c utf8 (quote_sign q quote).ascii u meant)

-- where no part begins the whole item is read
pub unquoted_all : (text : List ℕ) (q start at : ℕ) (name : List ℕ) → IsQuote q → IsUnquoted text q start at name → NoPart text q at → (end : ℕ) → IsQuoted text q start end
    → IsQuotedText text q start end name
unquoted_all text q start at name quote u none end x =
    let ne : q ≢ 92 = (quote_sign q quote).no_backslash in
    let same : SameEnd u.parts x.lead.parts at x.close =
    parts_once text q (start + 1) u.parts x.lead.parts at x.close ne u.are none x.lead.are (no_part_quote text q x.close quote x.closes x.alone) in
    let close : at ≡ end - 1 = omega (arith, same.ends, x.ends) in
    record { parts = u.parts; are = subst (AreParts text q (start + 1) u.parts) close u.are; is = u.is }

-- the text of a quoted item is one
pub quoted_text_once : (text : List ℕ) (q a b : ℕ) (x y : List ℕ) → IsQuote q → IsQuoted text q a b → IsQuotedText text q a b x → IsQuotedText text q a b y → x ≡ y
quoted_text_once text q a b x y quote item s t =
    let ne : q ≢ 92 = (quote_sign q quote).no_backslash in
    let close : item.close ≡ b - 1 = omega (arith, item.ends) in
    let none : NoPart text q (b - 1) = subst (NoPart text q) close (no_part_quote text q item.close quote item.closes item.alone) in
    let same : SameEnd s.parts t.parts (b - 1) (b - 1) = parts_once text q (a + 1) s.parts t.parts (b - 1) (b - 1) ne s.are none t.are none in
    s.is ∙ ap (flat_map (part_bytes q)) same.what ∙ sym t.is

-- what a backslash means is its escape
pub meant_escape : (text : List ℕ) (q at : ℕ) (found : Option Escape) → IsQuote q → get_or text at 0 ≡ 92
    → MatchOption found ((c : Option ℕ) (b : ℕ) → IsEscape text at c b → ⊥) (λ e. IsEscape text at e.code e.end)
    → MatchOption found (NoPart text q at) (λ e. IsMeant text q at e.code e.end)
meant_escape text q at None quote backslash none = no_part_backslash text q at quote backslash none
meant_escape text q at (Some e) quote backslash is = inr (record { within = (escape_after text at e.code e.end is).within; by = is })

-- a character begins where no byte stands that means itself
pub special_begins : (text : List ℕ) (q at : ℕ) → IsQuote q → (at < length text → (get_or text at 0 ≡ q) ⊎ (get_or text at 0 ≡ 92)) → class_at text at ≢ Inner
special_begins text q at quote special = λ is.
    let byte : IsInnerByte text at = inner_byte text at is in
    let within : at < length text = here text at (get_or text at 0) refl (omega (arith, byte.from)) in
    elim (special within) [
      | inl same ↦ omega (arith, byte.from, same, (quote_sign q quote).ascii)
      | inr backslash ↦ omega (arith, byte.from, backslash)
    ]

-- bytes more that stand for themselves
pub unquoted_run : (text bytes : List ℕ) (q start at next : ℕ) (name more now : List ℕ) → bytes ≡ text → IsQuote q → IsUnquoted text q start at name → ArePlain bytes q at next
    → (next < length bytes → (get_or bytes next 0 ≡ q) ⊎ (get_or bytes next 0 ≡ 92)) → more ≡ slice_range text at next → now ≡ name ++ more → IsUnquoted text q start next now
unquoted_run text bytes q start at next name more now same quote u are special is is' =
    let plain : ArePlain text q at next = rw same at are in
    let begins : class_at text next ≢ Inner = special_begins text q next quote (rw same at special) in
    let all : now ≡ name ++ slice_range text at next = is' ∙ ap (λ xs. name ++ xs) is in
    rw all (unquoted_plain text q start at next name u plain begins)
