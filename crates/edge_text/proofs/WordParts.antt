-- The words of what is left of a line.
use Rattle.std.proofs.Common.{◌≡◌, ℕ, zero, suc, ◌+◌, ◌-◌, ◌<◌, ◌≤◌, Bool, true, false, cond, ◌++◌, List, [], ◌∷◌, length, get_or, drop, All, refl, sym, ap, subst, ◌∙◌, inl, inr, arith}
use Rattle.std.specs.Prelude.{slice_index, slice_range}
use Rattle.std.specs.List.{filter, slice_split}
use Rattle.std.proofs.lemmas.Bool.{cases_lt}
use Rattle.std.proofs.lemmas.List.{append-nil, drop_all, drop_more, get_or-drop, get_or-take, get_or_default, length-drop, length-take, length-take-le}
use Rattle.std.proofs.lemmas.List.Folds.{drop_split}
use Rattle.std.proofs.lemmas.List.Splits.{slice_split-cons_yes, slice_split_at, slice_split_none}
use Rattle.edge_text.specs.Lines.{is_filled, is_separator, words_of}

-- the elements of a range have what each of its places has
pub range_has : (P : ℕ → Bool) (xs : List ℕ) (a b : ℕ) → b ≤ length xs → ((k : ℕ) → a ≤ k → k < b → P (slice_index xs k) ≡ false)
    → All (λ x. P x ≡ false) (slice_range xs a b)
range_has P xs a b within each k d lt =
    let count : k < b - a = omega (arith, lt, length-take (b - a) (drop a xs)) in
    let read : get_or (slice_range xs a b) k d ≡ get_or xs (a + k) 0 =
    get_or-take (b - a) (drop a xs) k d count ∙ get_or-drop a xs k d ∙ get_or_default xs (a + k) d 0 (omega (arith, count, within)) in
    subst (λ x. P x ≡ false) (sym read) (each (a + k) (omega arith) (omega (arith, count)))

pub skip_one : (line : List ℕ) (at : ℕ) → at < length line → is_separator (slice_index line at) ≡ true → words_of (drop at line) ≡ words_of (drop (at + 1) line)
skip_one line at lt is =
    ap words_of (drop_more line at 0 lt) ∙ ap (filter is_filled) (slice_split-cons_yes is_separator (get_or line at 0) (drop (at + 1) line) is)

skip_some : (n : ℕ) (line : List ℕ) (at : ℕ) → at + n ≤ length line → ((k : ℕ) → at ≤ k → k < at + n → is_separator (slice_index line k) ≡ true)
    → words_of (drop at line) ≡ words_of (drop (at + n) line)
skip_some zero line at within each = ap (λ k. words_of (drop k line)) (let e : at ≡ at + 0 = omega arith in e)
skip_some (suc n) line at within each =
    skip_one line at (omega (arith, within)) (each at (omega arith) (omega arith))
    ∙ skip_some n line (at + 1) (omega (arith, within)) (λ k from to. each k (omega (arith, from)) (omega (arith, to)))
    ∙ ap (λ k. words_of (drop k line)) (let e : at + 1 + n ≡ at + suc n = omega arith in e)

-- separators before a word are no part of it
pub skipped : (line : List ℕ) (from to : ℕ) → from ≤ to → to ≤ length line → ((k : ℕ) → from ≤ k → k < to → is_separator (slice_index line k) ≡ true)
    → words_of (drop from line) ≡ words_of (drop to line)
skipped line from to upto within each =
    let n = to - from in
    let end : from + n ≡ to = omega (arith, upto) in
    skip_some n line from (omega (arith, end, within)) (λ k first last. each k first (omega (arith, last, end)))
    ∙ ap (λ k. words_of (drop k line)) end

pub none_left : (line : List ℕ) (at : ℕ) → length line ≤ at → words_of (drop at line) ≡ []
none_left line at past = ap words_of (drop_all at line past)

pub no_word : (line : List ℕ) (from start : ℕ) → from ≤ start → start ≤ length line → length line ≤ start
    → ((k : ℕ) → from ≤ k → k < start → is_separator (slice_index line k) ≡ true) → words_of (drop from line) ≡ []
no_word line from start upto within past each = skipped line from start upto within each ∙ none_left line start past

filled_is : (word : List ℕ) → 0 < length word → is_filled word ≡ true
filled_is [] lt = absurd (omega (arith, lt))
filled_is (byte ∷ word) lt = refl

first_kept : (word : List ℕ) (words : List (List ℕ)) → is_filled word ≡ true → filter is_filled (word ∷ words) ≡ word ∷ filter is_filled words
first_kept word words is = ap (λ b. cond b (word ∷ filter is_filled words) (filter is_filled words)) is

-- the word from one place up to another, and what comes after it
pub word_there : (line : List ℕ) (start end : ℕ) → start < end → end ≤ length line
    → ((k : ℕ) → start ≤ k → k < end → is_separator (slice_index line k) ≡ false) → (end < length line → is_separator (slice_index line end) ≡ true)
    → words_of (drop start line) ≡ slice_range line start end ∷ words_of (drop end line)
word_there line start end lt within inside closes =
    let word = slice_range line start end in
    let cut : drop start line ≡ word ++ drop end line = drop_split line start end (omega (arith, lt)) in
    let unbroken : All (λ x. is_separator x ≡ false) word = range_has is_separator line start end within inside in
    let long : length word ≡ end - start = length-take-le (end - start) (drop start line) (omega (arith, length-drop start line, within)) in
    let filled : is_filled word ≡ true = filled_is word (omega (arith, long, lt)) in
    elim (cases_lt end (length line)) [
      | inl more ↦
          let byte = get_or line end 0 in
          let rest : drop end line ≡ byte ∷ drop (end + 1) line = drop_more line end 0 more in
          ap words_of (cut ∙ ap (λ xs. word ++ xs) rest)
          ∙ ap (filter is_filled) (slice_split_at is_separator word byte (drop (end + 1) line) unbroken (closes more))
          ∙ first_kept word (slice_split is_separator (drop (end + 1) line)) filled
          ∙ ap (λ ws. word ∷ ws) (sym (skip_one line end more (closes more)))
      | inr past ↦
          let none : drop end line ≡ [] = drop_all end line past in
          ap words_of (cut ∙ ap (λ xs. word ++ xs) none ∙ append-nil word)
          ∙ ap (filter is_filled) (slice_split_none is_separator word unbroken)
          ∙ first_kept word [] filled
          ∙ ap (λ ws. word ∷ ws) (sym (none_left line end past))
    ]

-- the first word after separators
pub word_found : (line : List ℕ) (from start end : ℕ) → from ≤ start → start < end → end ≤ length line
    → ((k : ℕ) → from ≤ k → k < start → is_separator (slice_index line k) ≡ true)
    → ((k : ℕ) → start ≤ k → k < end → is_separator (slice_index line k) ≡ false) → (end < length line → is_separator (slice_index line end) ≡ true)
    → words_of (drop from line) ≡ slice_range line start end ∷ words_of (drop end line)
word_found line from start end upto lt within skips inside closes =
    skipped line from start upto (omega (arith, lt, within)) skips ∙ word_there line start end lt within inside closes
