-- Quoted names that stand in the text as they are.
use Rattle.std.proofs.Common.{◌≡◌, ◌≢◌, ℕ, ◌+◌, ◌-◌, ◌<◌, ◌≤◌, List, [], length, get_or, drop, slice_range, inl, refl, sym, ap, subst, ◌∙◌, arith}
use Rattle.std.specs.Str.{IsUtf8}
use Rattle.std.proofs.lemmas.List.{get_or-take, get_or-drop, length-take-le, length-drop}
use Rattle.prolog_tokens.specs.Quoted.{IsQuoted, NoPart}
use Rattle.prolog_tokens.specs.Values.{IsQuotedText}
use Rattle.prolog_tokens.proofs.Names.{IsUnquoted, unquoted_none, unquoted_run, unquoted_all}
use Rattle.prolog_tokens.proofs.Once.{closed_within}
use Rattle.prolog_tokens.proofs.OneToken.{single_quote}
use Rattle.prolog_tokens.proofs.Parts.{ArePlain, lead_from, no_part_quote}

-- some place stands between the quotes
pub quotes_apart : (text : List ℕ) (a b : ℕ) → IsQuoted text 39 a b → a + 1 ≤ b - 1
quotes_apart text a b item = omega (arith, lead_from text 39 (a + 1) item.close item.lead, item.ends)

-- bytes between the quotes of which none is a quote or a backslash are the name
pub plain_text : (text : List ℕ) (a b : ℕ) (inner bytes : List ℕ) → IsUtf8 text → IsQuoted text 39 a b → inner ≡ slice_range text (a + 1) (b - 1) → bytes ≡ inner
    → ((k : ℕ) → k < length bytes → get_or bytes k 0 ≢ 39) → ((k : ℕ) → k < length bytes → get_or bytes k 0 ≢ 92) → IsQuotedText text 39 a b inner
plain_text text a b inner bytes utf8 item is same no_quote no_backslash = unquoted_all text 39 a (b - 1) inner single_quote read none b item
  where
    close : item.close ≡ b - 1
    close = omega (arith, item.ends)

    closes : get_or text (b - 1) 0 ≡ 39
    closes = ap (λ k. get_or text k 0) (sym close) ∙ item.closes

    within : b - 1 ≤ length text
    within = omega (arith, closed_within text 39 a b single_quote item)

    count : length bytes ≡ b - 1 - (a + 1)
    count = ap length (same ∙ is) ∙ length-take-le (b - 1 - (a + 1)) (drop (a + 1) text) (omega (arith, within, length-drop (a + 1) text))

    here : (k : ℕ) → a + 1 ≤ k → k < b - 1 → get_or bytes (k - (a + 1)) 0 ≡ get_or text k 0
    here k from below =
        let back : a + 1 + (k - (a + 1)) ≡ k = omega (arith, from) in
        ap (λ xs. get_or xs (k - (a + 1)) 0) (same ∙ is)
        ∙ get_or-take (b - 1 - (a + 1)) (drop (a + 1) text) (k - (a + 1)) 0 (omega (arith, from, below))
        ∙ get_or-drop (a + 1) text (k - (a + 1)) 0
        ∙ ap (λ n. get_or text n 0) back

    plain : ArePlain text 39 (a + 1) (b - 1)
    plain = record {
      from = quotes_apart text a b item;
      within = within;
      no_quote = λ k from below. subst (λ v. v ≢ 39) (here k from below) (no_quote (k - (a + 1)) (omega (arith, from, below, count)));
      no_backslash = λ k from below. subst (λ v. v ≢ 92) (here k from below) (no_backslash (k - (a + 1)) (omega (arith, from, below, count)));
    }

    read : IsUnquoted text 39 a (b - 1) inner
    read =
        unquoted_run text text 39 a (a + 1) (b - 1) [] inner inner refl single_quote (unquoted_none text 39 a utf8 (omega arith) (omega arith) item.opens)
        plain (λ _. inl closes) is refl

    none : NoPart text 39 (b - 1)
    none = no_part_quote text 39 (b - 1) single_quote closes (subst (λ k. get_or text (k + 1) 0 ≢ 39) close item.alone)
