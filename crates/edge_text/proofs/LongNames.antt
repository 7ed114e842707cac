-- Words of a line that are too long for names.
use Rattle.std.proofs.Common.{◌≡◌, ◌⊎◌, ℕ, ◌-◌, ◌<◌, ◌≤◌, true, false, List, length, refl, sym, ap, subst, ◌∙◌, inl, inr, arith}
use Rattle.std.specs.Prelude.{slice_index}
use Rattle.std.proofs.lemmas.Bool.{cases_eq, cases_lt, cases_order}
use Rattle.edge_text.specs.declared.limits.TheConstants.{MOST_NAME}
use Rattle.edge_text.specs.declared.words.Word.{Word}
use Rattle.edge_text.specs.Faults.{IsFirstLong, IsLongName}
use Rattle.edge_text.specs.Lines.{is_comment, is_separator}
use Rattle.edge_text.specs.Words.{IsNextWord, IsNoWord, IsWordAt}

not_both : (line : List ℕ) (k : ℕ) → is_separator (slice_index line k) ≡ true → is_separator (slice_index line k) ≡ false → ⊥
not_both line k yes_is no_is = let clash : true ≡ false = sym yes_is ∙ no_is in cc

-- no word before the offset is too long, and no word goes on there
pub record AreShortUpTo (line : List ℕ) (at : ℕ) : Type 0 where
  pub within : at ≤ length line
  pub clear : (start : ℕ) → IsLongName line start → at ≤ start
  pub edge : (at ≡ 0) ⊎ (at < length line → is_separator (slice_index line at) ≡ true)

pub none_short : (line : List ℕ) → AreShortUpTo line 0
none_short line = record { within = omega arith; clear = λ start long. omega arith; edge = inl refl }

word_is : (line : List ℕ) (at : ℕ) (word : Word) → AreShortUpTo line at → IsNextWord line at word → IsWordAt line word.start word.end
word_is line at word short next = record {
  ordered = next.ordered;
  within = next.within;
  inside = next.inside;
  opens = elim (cases_eq word.start at) [
    | inl is ↦ elim short.edge [
      | inl first ↦ inl (is ∙ first)
      | inr ends ↦
          let separates : is_separator (slice_index line word.start) ≡ true =
          ap (λ k. is_separator (slice_index line k)) is ∙ ends (omega (arith, is, next.ordered, next.within)) in
          absurd (not_both line word.start separates (next.inside word.start (omega arith) next.ordered))
    ]
    | inr ne ↦ inr (next.skipped (word.start - 1) (omega (arith, next.after, ne)) (omega (arith, next.after, ne)))
  ];
  closes = elim (cases_eq word.end (length line)) [
    | inl is ↦ inl is
    | inr ne ↦ inr (next.closes (omega (arith, ne, next.within)))
  ];
}

-- no word ends within another that begins there
no_shorter : (line : List ℕ) (start end other : ℕ) → IsWordAt line start end → IsWordAt line start other → end < other → ⊥
no_shorter line start end other one two lt = elim one.closes [
  | inl is ↦ omega (arith, is, lt, two.within)
  | inr separates ↦ not_both line end separates (two.inside end (omega (arith, one.ordered)) lt)
]

one_end : (line : List ℕ) (start end other : ℕ) → IsWordAt line start end → IsWordAt line start other → end ≡ other
one_end line start end other one two = elim (cases_order end other) [
  | inl is ↦ is
  | inr apart ↦ elim apart [
    | inl before ↦ absurd (no_shorter line start end other one two before)
    | inr after ↦ absurd (no_shorter line start other end two one after)
  ]
]

-- a long name that is left begins with the next word, or after it
from_word : (line : List ℕ) (at : ℕ) (word : Word) (start : ℕ) → AreShortUpTo line at → IsNextWord line at word → IsLongName line start
    → (start ≡ word.start) ⊎ (word.end ≤ start)
from_word line at word start short next long =
    elim (cases_order start word.start) [
      | inl is ↦ inl is
      | inr apart ↦ elim apart [
        | inl before ↦
            absurd (not_both line start (next.skipped start (short.clear start long) before) (long.word.inside start (omega arith) long.word.ordered))
        | inr after ↦ elim (cases_lt start word.end) [
          | inl within ↦ elim long.word.opens [
            | inl first ↦ absurd (omega (arith, first, after))
            | inr separates ↦
                absurd (not_both line (start - 1) separates (next.inside (start - 1) (omega (arith, after)) (omega (arith, within, after))))
          ]
          | inr past ↦ inr past
        ]
      ]
    ]

pub short_more : (line : List ℕ) (at : ℕ) (word : Word) → AreShortUpTo line at → IsNextWord line at word → word.end - word.start ≤ MOST_NAME
    → AreShortUpTo line word.end
short_more line at word short next few = record {
  within = next.within;
  clear = λ start long. elim (from_word line at word start short next long) [
    | inl is ↦
        let same : long.end ≡ word.end =
        one_end line start long.end word.end long.word (subst (λ s. IsWordAt line s word.end) (sym is) (word_is line at word short next)) in
        absurd (omega (arith, same, is, long.long, few))
    | inr past ↦ past
  ];
  edge = inr next.closes;
}

pub long_first : (line : List ℕ) (at : ℕ) (word : Word) → is_comment line ≡ false → AreShortUpTo line at → IsNextWord line at word
    → MOST_NAME < word.end - word.start → IsFirstLong line word.start
long_first line at word said short next many = record {
  is = record { said = said; end = word.end; word = word_is line at word short next; long = many };
  first = λ other long. elim (from_word line at word other short next long) [
    | inl is ↦ omega (arith, is)
    | inr past ↦ omega (arith, past, next.ordered)
  ];
}

pub none_long : (line : List ℕ) (at : ℕ) → AreShortUpTo line at → IsNoWord line at → (start : ℕ) → IsLongName line start → ⊥
none_long line at short none start long =
    not_both line start (none.skipped start (short.clear start long) (omega (arith, long.word.ordered, long.word.within)))
    (long.word.inside start (omega arith) long.word.ordered)

pub short_line : (line : List ℕ) → length line ≤ MOST_NAME → (start : ℕ) → IsLongName line start → ⊥
short_line line few start long = omega (arith, few, long.long, long.word.within)

pub comment_line : (line : List ℕ) → is_comment line ≡ true → (start : ℕ) → IsLongName line start → ⊥
comment_line line is start long = let clash : true ≡ false = sym is ∙ long.said in cc
