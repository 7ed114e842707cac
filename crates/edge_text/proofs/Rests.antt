-- The lines of what is left of a text.
use Rattle.std.proofs.Common.{◌≡◌, ◌⊎◌, ℕ, ◌+◌, ◌<◌, ◌≤◌, true, false, ◌++◌, List, [], ◌∷◌, length, get_or, drop, All, refl, ap, ◌∙◌, inl, inr, arith}
use Rattle.std.specs.Prelude.{slice_index, slice_range}
use Rattle.std.proofs.lemmas.Bool.{cases_lt}
use Rattle.std.proofs.lemmas.List.{append-nil, drop_all, drop_more}
use Rattle.std.proofs.lemmas.List.Folds.{drop_split}
use Rattle.std.proofs.lemmas.List.Splits.{slice_split_at, slice_split_none}
use Rattle.edge_text.specs.Lines.{is_newline, lines_of}
use Rattle.edge_text.proofs.WordParts.{range_has}

-- the lines from that offset on, where one begins; none after the last
abbrev pub AreRest : List ℕ → ℕ → List (List ℕ) → Type 0
AreRest text at rest = ((at ≤ length text) × (rest ≡ lines_of (drop at text))) ⊎ ((at ≡ length text + 1) × (rest ≡ []))

-- the lines after one
pub record IsNextRest (text : List ℕ) (at end : ℕ) (rest : List (List ℕ)) : Type 0 where
  pub next : List (List ℕ)
  pub are : AreRest text (end + 1) next
  pub is : rest ≡ slice_range text at end ∷ next

pub next_rest : (text : List ℕ) (at end : ℕ) (rest : List (List ℕ)) → AreRest text at rest → at ≤ end → end ≤ length text
    → ((k : ℕ) → at ≤ k → k < end → is_newline (slice_index text k) ≡ false) → (end < length text → is_newline (slice_index text end) ≡ true)
    → IsNextRest text at end rest
next_rest text at end rest are upto within inside closes =
    let line = slice_range text at end in
    let here : rest ≡ lines_of (drop at text) = elim are [
      | inl some ↦ some.1
      | inr none ↦ absurd (let past : at ≡ length text + 1 = none.0 in omega (arith, past, upto, within))
    ] in
    let cut : drop at text ≡ line ++ drop end text = drop_split text at end upto in
    let unbroken : All (λ x. is_newline x ≡ false) line = range_has is_newline text at end within inside in
    elim (cases_lt end (length text)) [
      | inl more ↦
          let byte = get_or text end 0 in
          record {
            next = lines_of (drop (end + 1) text);
            are = inl (omega (arith, more), refl);
            is =
                here ∙ ap lines_of (cut ∙ ap (λ xs. line ++ xs) (drop_more text end 0 more))
                ∙ slice_split_at is_newline line byte (drop (end + 1) text) unbroken (closes more);
          }
      | inr past ↦
          record {
            next = [];
            are = inr (omega (arith, past, within), refl);
            is =
                here ∙ ap lines_of (cut ∙ ap (λ xs. line ++ xs) (drop_all end text past) ∙ append-nil line)
                ∙ slice_split_none is_newline line unbroken;
          }
    ]
