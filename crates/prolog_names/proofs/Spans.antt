-- Where names stand in the text of all names, and that they stand there still in a longer one.
use Rattle.std.proofs.Common.{◌≡◌, ℕ, ◌+◌, ◌-◌, ◌≤◌, inl, inr, List, [], ◌∷◌, ◌++◌, length, get_or, take, drop, refl, sym, ap, subst, ◌∙◌, arith, length-append}
use Rattle.std.specs.Prelude.{All}
use Rattle.std.specs.Str.{IsCharBoundary, IsUtf8}
use Rattle.std.proofs.lemmas.Bool.{cases_lt}
use Rattle.std.proofs.lemmas.List.{get_or_append_left, take_all, take-append-le, drop_at, drop-append-le, length-drop}
use Rattle.std.proofs.lemmas.List.Elements.{All-head, All-tail, All-get_or, All-from_get_or, All-weaker}
use Rattle.std.proofs.lemmas.Str.{IsCharBoundary-at_seam, IsCharBoundary-end}
use Rattle.prolog_names.specs.declared.table.Entry.{Entry}
use Rattle.prolog_names.specs.Table.{text_hash, name_in, names_of, IsSpan, IsHashed}

pub name_kept : (texts more : List ℕ) (e : Entry) → IsSpan texts e → name_in (texts ++ more) e ≡ name_in texts e
name_kept texts more e span =
    ap (take (e.end - e.start)) (drop-append-le e.start texts more (omega (arith, span.order, span.ends.0)))
    ∙ take-append-le (e.end - e.start) (drop e.start texts) more (omega (arith, length-drop e.start texts, span.ends.0))

pub names_kept : (texts more : List ℕ) (entries : List Entry) → All (IsSpan texts) entries → names_of (texts ++ more) entries ≡ names_of texts entries
names_kept texts more [] spans = refl
names_kept texts more (e ∷ entries) spans =
    ap (λ name. name ∷ names_of (texts ++ more) entries) (name_kept texts more e (All-head (IsSpan texts) e entries spans))
    ∙ ap (λ names. name_in texts e ∷ names) (names_kept texts more entries (All-tail (IsSpan texts) e entries spans))

boundary_kept : (texts more : List ℕ) (i : ℕ) → IsUtf8 more → IsCharBoundary texts i → IsCharBoundary (texts ++ more) i
boundary_kept texts more i utf8 at =
    elim (cases_lt i (length texts)) [
      | inl below ↦
          let same : get_or (texts ++ more) i 0 ≡ get_or texts i 0 = get_or_append_left texts more 0 i below in (
            omega (arith, below, length-append texts more),
            λ _ high. subst (λ b. 192 ≤ b) (sym same) (at.1 below (subst (λ b. 128 ≤ b) same high)),
          )
      | inr from ↦
          let here : length texts ≡ i = omega (arith, from, at.0) in
          subst (IsCharBoundary (texts ++ more)) here (IsCharBoundary-at_seam (texts ++ more) texts more refl utf8)
    ]

pub span_kept : (texts more : List ℕ) (e : Entry) → IsUtf8 more → IsSpan texts e → IsSpan (texts ++ more) e
span_kept texts more e utf8 span = record {
  order = span.order;
  starts = boundary_kept texts more e.start utf8 span.starts;
  ends = boundary_kept texts more e.end utf8 span.ends;
}

-- the entry of the text that stands last
module _ (texts name : List ℕ) (e : Entry) (starts : e.start ≡ length texts) (ends : e.end ≡ length texts + length name) where
  pub last_name : name_in (texts ++ name) e ≡ name
  last_name = ap (take (e.end - e.start)) (drop_at texts name e.start (sym starts)) ∙ take_all (e.end - e.start) name (omega (arith, starts, ends))

  pub last_span : IsUtf8 name → IsSpan (texts ++ name) e
  last_span utf8 = record {
    order = omega (arith, starts, ends);
    starts = subst (IsCharBoundary (texts ++ name)) (sym starts) (IsCharBoundary-at_seam (texts ++ name) texts name refl utf8);
    ends = subst (IsCharBoundary (texts ++ name)) (length-append texts name ∙ sym ends) (IsCharBoundary-end (texts ++ name));
  }

-- the hashes beside the names, in a longer text
pub hashed_kept : (texts more : List ℕ) (entries : List Entry) (d : Entry) → All (IsSpan texts) entries → All (IsHashed texts) entries
    → All (IsHashed (texts ++ more)) entries
hashed_kept texts more entries d spans hashed =
    All-from_get_or (IsHashed (texts ++ more)) entries d
    (λ i within.
    let e = get_or entries i d in
    All-get_or (IsHashed texts) entries i d within hashed ∙ ap text_hash (sym (name_kept texts more e (All-get_or (IsSpan texts) entries i d within spans))))

pub spans_kept : (texts more : List ℕ) (entries : List Entry) → IsUtf8 more → All (IsSpan texts) entries → All (IsSpan (texts ++ more)) entries
spans_kept texts more entries utf8 spans = All-weaker (IsSpan texts) (IsSpan (texts ++ more)) (λ e span. span_kept texts more e utf8 span) entries spans
