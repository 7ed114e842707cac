-- A text of JSON Lines has a first line that is no edge, or none.
use Rattle.std.proofs.Common.{◌≡◌, ◌⊎◌, inl, inr, ℕ, ◌+◌, ◌<◌, List, [], length, refl, sym, ap, ◌∙◌, arith}
use Rattle.std.proofs.lemmas.Bool.{cases_lt}
use Rattle.std.proofs.lemmas.List.{get_or_past}
use Rattle.edge_text.specs.Faults.{line_at}
use Rattle.edge_text.specs.Lines.{lines_of}
use Rattle.edge_json.specs.declared.cause.Cause.{Cause}
use Rattle.edge_json.specs.declared.cause.LineFault.{LineFault}
use Rattle.edge_json.specs.Faults.{IsFaultless, IsFirstFault}
use Rattle.edge_json.specs.Meaning.{Meaning, bad, meaning_of, says}
use Rattle.component_laws.proofs.Known.{HoldsNowhere, IsFirst, IsFound, IsKnown, first_below}

cause_or_none : (meaning : Meaning) → IsFound (λ cause. meaning ≡ bad cause)
cause_or_none (says names) = inr (λ cause is. let both : says names ≡ bad cause = is in cc)
cause_or_none (bad cause) = inl (cause, refl)

module _ (text : List ℕ) where
  abbrev IsBad : ℕ → Type 0
  IsBad number = (cause : Cause) × (meaning_of (line_at text number) ≡ bad cause)

  known_line : (number : ℕ) → IsKnown (IsBad number)
  known_line number = go (cause_or_none (meaning_of (line_at text number)))
    where
      go : IsFound (λ cause. meaning_of (line_at text number) ≡ bad cause) → IsKnown (IsBad number)
      go (inl found) = inl found
      go (inr none) = inr (λ is. none is.0 is.1)

  -- past the last line there is none
  line_inside : (number : ℕ) (cause : Cause) → meaning_of (line_at text number) ≡ bad cause → number < length (lines_of text)
  line_inside number cause means = elim (cases_lt number (length (lines_of text))) [
    | inl lt ↦ lt
    | inr past ↦
        let empty : says [] ≡ bad cause = sym (ap meaning_of (get_or_past (lines_of text) number [] past)) ∙ means in
        absurd (let none : ⊥ = cc in none)
  ]

  first_of_lines : (number : ℕ) → IsFirst IsBad (length (lines_of text)) number → (fault : LineFault) × IsFirstFault text fault
  first_of_lines number line = (
    record { line = number + 1; cause = line.holds.0 },
    record {
      is = record { number = number; line_is = refl; means = line.holds.1 };
      first = λ other is. elim (cases_lt is.number number) [
        | inl before ↦ absurd (line.before is.number before (other.cause, is.means))
        | inr after ↦ let line_is = is.line_is in omega (arith, after, line_is)
      ];
    },
  )

  pub fault_or_none : ((fault : LineFault) × IsFirstFault text fault) ⊎ IsFaultless text
  fault_or_none = go (first_below IsBad known_line (length (lines_of text)))
    where
      go : ((number : ℕ) × IsFirst IsBad (length (lines_of text)) number) ⊎ HoldsNowhere IsBad (length (lines_of text))
          → ((fault : LineFault) × IsFirstFault text fault) ⊎ IsFaultless text
      go (inl found) = inl (first_of_lines found.0 found.1)
      go (inr none) = inr (λ fault is. none is.number (line_inside is.number fault.cause is.means) (fault.cause, is.means))
