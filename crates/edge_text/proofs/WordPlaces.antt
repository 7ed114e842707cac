-- Words of a line, and where they are in it.
use Rattle.std.proofs.Common.{◌≡◌, ◌⊎◌, ℕ, zero, suc, ◌+◌, ◌-◌, ◌<◌, ◌≤◌, true, false, ◌++◌, List, [], ◌∷◌, length, get_or, take, drop, Contains, refl, sym, ap, subst, ◌∙◌, inl, inr, arith}
use Rattle.std.specs.Prelude.{slice_index, slice_range}
use Rattle.std.specs.List.{filter, onto_first, slice_split}
use Rattle.std.proofs.lemmas.Bool.{cases_Bool, cases_lt}
use Rattle.std.proofs.lemmas.List.{drop_more, take-append-drop}
use Rattle.std.proofs.lemmas.List.Elements.{Contains-append_right, filter-append}
use Rattle.std.proofs.lemmas.List.Splits.{slice_split-cons_no, slice_split-cons_yes}
use Rattle.list_laws.proofs.OneOrder.{first_or_rest, in_first, nothing_in}
use Rattle.edge_text.specs.Lines.{is_filled, is_separator, words_of}
use Rattle.edge_text.specs.Words.{AreUnbroken, IsWordAt}
use Rattle.edge_text.proofs.WordParts.{none_left, skip_one, word_there}

-- the parts before and after a separator

one_longer : (part : List ℕ) (parts others : List (List ℕ)) (x : ℕ) → onto_first x ((part ∷ parts) ++ others) ≡ onto_first x (part ∷ parts) ++ others
one_longer part parts others x = refl

pub record HasPart (parts : List (List ℕ)) : Type 0 where
  pub first : List ℕ
  pub rest : List (List ℕ)
  pub is : parts ≡ first ∷ rest

onto_has : (x : ℕ) (parts : List (List ℕ)) → HasPart (onto_first x parts)
onto_has x [] = record { first = x ∷ []; rest = []; is = refl }
onto_has x (part ∷ parts) = record { first = x ∷ part; rest = parts; is = refl }

split_has : (xs : List ℕ) → HasPart (slice_split is_separator xs)
split_has [] = record { first = []; rest = []; is = refl }
split_has (x ∷ xs) = elim (cases_Bool (is_separator x)) [
  | inl separates ↦ record { first = []; rest = slice_split is_separator xs; is = slice_split-cons_yes is_separator x xs separates }
  | inr fits ↦
      let has = onto_has x (slice_split is_separator xs) in
      record { first = has.first; rest = has.rest; is = slice_split-cons_no is_separator x xs fits ∙ has.is }
]

split_append : (xs : List ℕ) (s : ℕ) (ys : List ℕ) → is_separator s ≡ true
    → slice_split is_separator (xs ++ s ∷ ys) ≡ slice_split is_separator xs ++ slice_split is_separator ys
split_append [] s ys is = slice_split-cons_yes is_separator s ys is
split_append (x ∷ xs) s ys is =
    let more = split_append xs s ys is in
    elim (cases_Bool (is_separator x)) [
      | inl separates ↦
          slice_split-cons_yes is_separator x (xs ++ s ∷ ys) separates ∙ ap (λ parts. [] ∷ parts) more
          ∙ ap (λ parts. parts ++ slice_split is_separator ys) (sym (slice_split-cons_yes is_separator x xs separates))
      | inr fits ↦
          let has = split_has xs in
          slice_split-cons_no is_separator x (xs ++ s ∷ ys) fits ∙ ap (onto_first x) more
          ∙ ap (λ parts. onto_first x (parts ++ slice_split is_separator ys)) has.is
          ∙ ap (λ parts. onto_first x parts ++ slice_split is_separator ys) (sym has.is)
          ∙ ap (λ parts. parts ++ slice_split is_separator ys) (sym (slice_split-cons_no is_separator x xs fits))
    ]

words_append : (xs : List ℕ) (s : ℕ) (ys : List ℕ) → is_separator s ≡ true → words_of (xs ++ s ∷ ys) ≡ words_of xs ++ words_of ys
words_append xs s ys is =
    ap (filter is_filled) (split_append xs s ys is) ∙ filter-append is_filled (slice_split is_separator xs) (slice_split is_separator ys)

-- a word at a place is one of the words
pub place_word : (line : List ℕ) (start end : ℕ) → IsWordAt line start end → Contains (words_of line) (slice_range line start end)
place_word line start end at =
    let word = slice_range line start end in
    let closes : end < length line → is_separator (slice_index line end) ≡ true =
    λ lt. elim at.closes [
      | inl last ↦ absurd (omega (arith, last, lt))
      | inr separates ↦ separates
    ] in
    let here : words_of (drop start line) ≡ word ∷ words_of (drop end line) = word_there line start end at.ordered at.within at.inside closes in
    let there : Contains (words_of (drop start line)) word = subst (λ ws. Contains ws word) (sym here) (in_first word (words_of (drop end line))) in
    elim at.opens [
      | inl first ↦ subst (λ k. Contains (words_of (drop k line)) word) first there
      | inr separates ↦
          elim (cases_lt 0 start) [
            | inr none ↦ subst (λ k. Contains (words_of (drop k line)) word) (let e : start ≡ 0 = omega (arith, none) in e) there
            | inl some ↦
                let k = start - 1 in
                let next : k + 1 ≡ start = omega (arith, some) in
                let byte = get_or line k 0 in
                let cut : line ≡ take k line ++ byte ∷ drop start line =
                sym (take-append-drop k line)
                ∙ ap (λ xs. take k line ++ xs) (drop_more line k 0 (omega (arith, next, at.ordered, at.within)) ∙ ap (λ n. byte ∷ drop n line) next) in
                let split : words_of line ≡ words_of (take k line) ++ words_of (drop start line) =
                ap words_of cut ∙ words_append (take k line) byte (drop start line) separates in
                subst (λ ws. Contains ws word) (sym split) (Contains-append_right (words_of (take k line)) (words_of (drop start line)) word there)
          ]
    ]

-- where unbroken bytes end
pub record IsEndFrom (line : List ℕ) (at : ℕ) : Type 0 where
  pub end : ℕ
  pub from : at ≤ end
  pub within : end ≤ length line
  pub inside : AreUnbroken line at end
  pub closes : end < length line → is_separator (slice_index line end) ≡ true

end_from : (n : ℕ) (line : List ℕ) (at : ℕ) → at ≤ length line → length line ≤ at + n → IsEndFrom line at
end_from zero line at within enough = record {
  end = at;
  from = omega arith;
  within = within;
  inside = λ k low high. absurd (omega (arith, low, high));
  closes = λ lt. absurd (omega (arith, lt, enough));
}
end_from (suc n) line at within enough = elim (cases_lt at (length line)) [
  | inr past ↦ record {
    end = at;
    from = omega arith;
    within = within;
    inside = λ k low high. absurd (omega (arith, low, high));
    closes = λ lt. absurd (omega (arith, lt, past));
  }
  | inl inside_line ↦ elim (cases_Bool (is_separator (slice_index line at))) [
    | inl separates ↦ record {
      end = at;
      from = omega arith;
      within = within;
      inside = λ k low high. absurd (omega (arith, low, high));
      closes = λ lt. separates;
    }
    | inr fits ↦
        let rest = end_from n line (at + 1) (omega (arith, inside_line)) (omega (arith, enough)) in
        record {
          end = rest.end;
          from = omega (arith, rest.from);
          within = rest.within;
          inside = λ k low high. elim (cases_lt at k) [
            | inl later ↦ rest.inside k (omega (arith, later)) high
            | inr here ↦ subst (λ j. is_separator (slice_index line j) ≡ false) (let e : at ≡ k = omega (arith, low, here) in e) fits
          ];
          closes = rest.closes;
        }
  ]
]

-- where a word is
pub record IsPlaceOf (line word : List ℕ) : Type 0 where
  pub start : ℕ
  pub end : ℕ
  pub at : IsWordAt line start end
  pub is : slice_range line start end ≡ word

-- at the offset no word goes on: it is the first, or after a separator, or no word begins there
abbrev Begins : List ℕ → ℕ → Type 0
Begins line at =
    (at ≡ 0) ⊎ ((is_separator (slice_index line (at - 1)) ≡ true) ⊎ (at < length line → is_separator (slice_index line at) ≡ true))

word_from : (n : ℕ) (line word : List ℕ) (at : ℕ) → Begins line at → at ≤ length line → length line ≤ at + n
    → Contains (words_of (drop at line)) word → IsPlaceOf line word
word_from zero line word at begins within enough has =
    absurd (nothing_in word (subst (λ ws. Contains ws word) (none_left line at (omega (arith, enough))) has))
word_from (suc n) line word at begins within enough has = elim (cases_lt at (length line)) [
  | inr past ↦ absurd (nothing_in word (subst (λ ws. Contains ws word) (none_left line at past) has))
  | inl inside_line ↦ elim (cases_Bool (is_separator (slice_index line at))) [
    | inl separates ↦
        let before : is_separator (slice_index line (at + 1 - 1)) ≡ true =
        subst (λ k. is_separator (slice_index line k) ≡ true) (let e : at ≡ at + 1 - 1 = omega arith in e) separates in
        word_from n line word (at + 1) (inr (inl before)) (omega (arith, inside_line)) (omega (arith, enough))
        (subst (λ ws. Contains ws word) (skip_one line at inside_line separates) has)
    | inr fits ↦
        let stop = end_from (length line) line at within (omega arith) in
        let ordered : at < stop.end = elim (cases_lt at stop.end) [
          | inl lt ↦ lt
          | inr ge ↦
              let same : stop.end ≡ at = omega (arith, ge, stop.from) in
              let clash : true ≡ false =
              sym (stop.closes (omega (arith, same, inside_line))) ∙ ap (λ k. is_separator (slice_index line k)) same ∙ fits in
              absurd (let none : ⊥ = cc in none)
        ] in
        let found = word_there line at stop.end ordered stop.within stop.inside stop.closes in
        elim (first_or_rest (slice_range line at stop.end) word (words_of (drop stop.end line)) (subst (λ ws. Contains ws word) found has)) [
          | inl is ↦ record {
            start = at;
            end = stop.end;
            at = record {
              ordered = ordered;
              within = stop.within;
              inside = stop.inside;
              opens = elim begins [
                | inl first ↦ inl first
                | inr other ↦ elim other [
                  | inl before ↦ inr before
                  | inr none ↦ absurd (let clash : true ≡ false = sym (none inside_line) ∙ fits in let never : ⊥ = cc in never)
                ]
              ];
              closes = elim (cases_lt stop.end (length line)) [
                | inl lt ↦ inr (stop.closes lt)
                | inr ge ↦ inl (omega (arith, ge, stop.within))
              ];
            };
            is = is;
          }
          | inr later ↦
              word_from n line word stop.end (inr (inr stop.closes)) stop.within (omega (arith, ordered, enough)) later
        ]
  ]
]

pub word_place : (line word : List ℕ) → Contains (words_of line) word → IsPlaceOf line word
word_place line word has = word_from (length line) line word 0 (inl refl) (omega arith) (omega arith) has
