-- A text of words has a first fault, or none.
use Rattle.std.proofs.Common.{◌≡◌, ◌⊎◌, inl, inr, ℕ, ◌+◌, ◌-◌, ◌<◌, ◌≤◌, true, false, List, [], length, refl, subst, arith}
use Rattle.std.specs.Prelude.{slice_index}
use Rattle.std.proofs.lemmas.Bool.{cases_eq, cases_lt}
use Rattle.std.proofs.lemmas.List.{get_or_past}
use Rattle.edge_text.specs.declared.fault.Fault.{Fault}
use Rattle.edge_text.specs.declared.limits.TheConstants.{MOST_NAME}
use Rattle.edge_text.specs.Faults.{IsFault, IsFirstFault, IsLongName, line_at}
use Rattle.edge_text.specs.Lines.{is_comment, is_separator, lines_of}
use Rattle.edge_text.specs.Words.{AreUnbroken, IsWordAt}
use Rattle.component_laws.proofs.Known.{HoldsNowhere, IsFirst, IsKnown, first_below, known_as, known_below, known_bool, known_both, known_either, known_if}

known_lt : (m n : ℕ) → IsKnown (m < n)
known_lt m n = elim (cases_lt m n) [ inl lt ↦ inl lt | inr le ↦ inr (λ lt. omega (arith, lt, le)) ]

known_le : (m n : ℕ) → IsKnown (m ≤ n)
known_le m n = elim (cases_lt n m) [ inl lt ↦ inr (λ le. omega (arith, lt, le)) | inr le ↦ inl le ]

-- words

module _ (line : List ℕ) where
  known_unbroken : (from to : ℕ) → IsKnown (AreUnbroken line from to)
  known_unbroken from to =
      known_as (λ all k low lt. all k lt low) (λ all k lt low. all k low lt)
      (known_below (λ k. from ≤ k → is_separator (slice_index line k) ≡ false)
      (λ k. known_if (known_le from k) (known_bool (is_separator (slice_index line k)) false)) to)

  known_word : (start end : ℕ) → IsKnown (IsWordAt line start end)
  known_word start end =
      known_as
      (λ (both : (start < end) × ((end ≤ length line) × (AreUnbroken line start end
      × (((start ≡ 0) ⊎ (is_separator (slice_index line (start - 1)) ≡ true)) × ((end ≡ length line) ⊎ (is_separator (slice_index line end) ≡ true)))))).
      record { ordered = both.0; within = both.1.0; inside = both.1.1.0; opens = both.1.1.1.0; closes = both.1.1.1.1 })
      (λ (at : IsWordAt line start end). (at.ordered, (at.within, (at.inside, (at.opens, at.closes)))))
      (known_both (known_lt start end) (known_both (known_le end (length line)) (known_both (known_unbroken start end)
      (known_both (known_either (cases_eq start 0) (known_bool (is_separator (slice_index line (start - 1))) true))
      (known_either (cases_eq end (length line)) (known_bool (is_separator (slice_index line end)) true))))))

  -- a long word begins there
  known_long : (start : ℕ) → IsKnown (IsLongName line start)
  known_long start =
      go (known_bool (is_comment line) false)
      (first_below (λ end. IsWordAt line start end × (MOST_NAME < end - start))
      (λ end. known_both (known_word start end) (known_lt MOST_NAME (end - start))) (length line + 1))
    where
      go : IsKnown (is_comment line ≡ false) → ((n : ℕ) × IsFirst (λ end. IsWordAt line start end × (MOST_NAME < end - start)) (length line + 1) n)
          ⊎ HoldsNowhere (λ end. IsWordAt line start end × (MOST_NAME < end - start)) (length line + 1) → IsKnown (IsLongName line start)
      go (inr comment) ends = inr (λ long. comment long.said)
      go (inl said) (inl found) = inl (record { said = said; end = found.0; word = found.1.holds.0; long = found.1.holds.1 })
      go (inl said) (inr none) = inr (λ long. let within = long.word.within in none long.end (omega (arith, within)) (long.word, long.long))

  -- and it begins in the line
  starts_inside : (start : ℕ) → IsLongName line start → start < length line
  starts_inside start long = let ordered = long.word.ordered in let within = long.word.within in omega (arith, ordered, within)

  first_long : ((start : ℕ) × IsFirst (IsLongName line) (length line) start) ⊎ ((start : ℕ) → IsLongName line start → ⊥)
  first_long = go (first_below (IsLongName line) known_long (length line))
    where
      go : ((start : ℕ) × IsFirst (IsLongName line) (length line) start) ⊎ HoldsNowhere (IsLongName line) (length line)
          → ((start : ℕ) × IsFirst (IsLongName line) (length line) start) ⊎ ((start : ℕ) → IsLongName line start → ⊥)
      go (inl found) = inl found
      go (inr none) = inr (λ start long. none start (starts_inside start long) long)

-- lines

module _ (text : List ℕ) where
  abbrev HasLong : ℕ → Type 0
  HasLong number = (start : ℕ) × IsLongName (line_at text number) start

  known_line : (number : ℕ) → IsKnown (HasLong number)
  known_line number = go (first_long (line_at text number))
    where
      go : ((start : ℕ) × IsFirst (IsLongName (line_at text number)) (length (line_at text number)) start)
          ⊎ ((start : ℕ) → IsLongName (line_at text number) start → ⊥) → IsKnown (HasLong number)
      go (inl found) = inl (found.0, found.1.holds)
      go (inr none) = inr (λ has. none has.0 has.1)

  -- past the last line there is none
  line_inside : (number start : ℕ) → IsLongName (line_at text number) start → number < length (lines_of text)
  line_inside number start long = elim (cases_lt number (length (lines_of text))) [
    | inl lt ↦ lt
    | inr past ↦
        let empty : IsLongName [] start = subst (λ line. IsLongName line start) (get_or_past (lines_of text) number [] past) long in
        let inside : start < 0 = starts_inside [] start empty in
        absurd (omega (arith, inside))
  ]

  first_in : (number : ℕ) → IsFirst HasLong (length (lines_of text)) number
      → ((start : ℕ) × IsFirst (IsLongName (line_at text number)) (length (line_at text number)) start)
      ⊎ ((start : ℕ) → IsLongName (line_at text number) start → ⊥) → (fault : Fault) × IsFirstFault text fault
  first_in number line (inr none) = absurd (none line.holds.0 line.holds.1)
  first_in number line (inl found) = (
    record { line = number + 1; column = found.0 + 1 },
    record {
      is = record { number = number; start = found.0; line_is = refl; column_is = refl; long = found.1.holds };
      first = λ other is before. elim before [
        | inl lower ↦
            let line_is = is.line_is in
            line.before is.number (omega (arith, lower, line_is)) (is.start, is.long)
        | inr left ↦
            let line_is = is.line_is in
            let column_is = is.column_is in
            let same : is.number ≡ number = omega (arith, left.0, line_is) in
            let long : IsLongName (line_at text number) is.start = subst (λ n. IsLongName (line_at text n) is.start) same is.long in
            found.1.before is.start (omega (arith, left.1, column_is)) long
      ];
    },
  )

  pub fault_or_none : ((fault : Fault) × IsFirstFault text fault) ⊎ ((fault : Fault) → IsFault text fault → ⊥)
  fault_or_none = go (first_below HasLong known_line (length (lines_of text)))
    where
      go : ((number : ℕ) × IsFirst HasLong (length (lines_of text)) number) ⊎ HoldsNowhere HasLong (length (lines_of text))
          → ((fault : Fault) × IsFirstFault text fault) ⊎ ((fault : Fault) → IsFault text fault → ⊥)
      go (inl found) = inl (first_in found.0 found.1 (first_long (line_at text found.0)))
      go (inr none) = inr (λ fault is. none is.number (line_inside is.number is.start is.long) (is.start, is.long))
