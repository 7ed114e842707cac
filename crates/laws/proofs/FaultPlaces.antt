-- Each fault of a text stands at an offset of it, and each offset has a place.
use Rattle.std.proofs.Common.{◌≡◌, ℕ, zero, suc, ◌+◌, ◌-◌, List, refl, subst, ap, ◌∙◌, inl, inr, arith, map}
use Rattle.std.specs.Prelude.{IfSome, take, length, chars, count_by, slice_index, slice_range, ◌==◌}
use Rattle.std.proofs.lemmas.Bool.{cases_eq, cases_lt}
use Rattle.prolog_tokens.specs.Places.{IsOffset, BeginsLine, IsPlace, fault_offset}
use Rattle.prolog_tokens.specs.declared.token.Place.{Place}
use Rattle.prolog_tokens.specs.declared.token.TokenFault.{TokenFault}
use Rattle.prolog_tokens.specs.declared.token.TokenFault.TheVariants as of_tokens
use Rattle.prolog_tokens.proofs.Boundaries.{wrong_offset}
use Rattle.kept_clauses.specs.Plain.{plain}
use Rattle.clause_text.proofs.PlainOffsets.{all_plain_stand}
use Rattle.clause_text.specs.declared.cause.Cause.{Cause}
use Rattle.clause_text.specs.declared.fault.TextFault.TheVariants.{At}
use Rattle.clause_text.specs.TextFault.{HasTextFault, bytes, tokens, clauses, fault_of_tokens}
use Rattle.clause_text.proofs.Offsets.{clauses_placed, reading_placed}
use Rattle.module_table.specs.FileText.{HasFault}
use Rattle.module_table.specs.Said.{Refusal}
use Rattle.module_table.proofs.FactOffsets.{refusals_placed}

-- a fault of the tokens tells its own offset
tokens_stand : (text : List ℕ) (cause : Cause) (at : ℕ) (fault : TokenFault) → At cause at ≡ fault_of_tokens fault → IfSome (fault_offset fault) (λ k. IsOffset text k) → IsOffset text at
tokens_stand text cause at (of_tokens.BadChar k) is stands = let same : k ≡ at = cc in subst (IsOffset text) same stands
tokens_stand text cause at (of_tokens.OpenQuote k) is stands = let same : k ≡ at = cc in subst (IsOffset text) same stands
tokens_stand text cause at (of_tokens.OpenComment k) is stands = let same : k ≡ at = cc in subst (IsOffset text) same stands
tokens_stand text cause at (of_tokens.BadEscape k) is stands = let same : k ≡ at = cc in subst (IsOffset text) same stands
tokens_stand text cause at of_tokens.NoMemory is stands = absurd (cc)

text_stands : (text : List ℕ) (cause : Cause) (at : ℕ) → HasTextFault text (At cause at) → IsOffset text at
text_stands text cause at (bytes has) =
    let same : has.0 ≡ at = let is = has.1 in cc in
    subst (IsOffset text) same (record { within = omega (arith, has.2.short); utf8 = has.2.front })
text_stands text cause at (tokens has) = tokens_stand text cause at has.of has.is (wrong_offset text has.has.next.place has.of has.utf8 has.has.next.wrong)
text_stands text cause at (clauses has) = clauses_placed text (At cause at) has

-- the fault of a file stands at an offset of its text
pub fault_stands : (name text : List ℕ) (refusal : Refusal) → HasFault name text refusal → IsOffset text refusal.offset
fault_stands name text refusal (inl has) = text_stands text refusal.cause refusal.offset has
fault_stands name text refusal (inr has) = refusals_placed text name (map plain has.trees) refusal (all_plain_stand text has.trees (reading_placed text has.trees has.reads)) has.said

-- the line before each offset begins somewhere
line_begins : (text : List ℕ) (at : ℕ) → (from : ℕ) × BeginsLine text from at
line_begins text zero = (0, record { before = omega arith; begins = inl refl; none = λ k from below same. let no : ⊥ = omega (arith, below) in no })
line_begins text (suc at) = elim (cases_eq (slice_index text at) 10) [
  | inl newline ↦ (
    suc at,
    record {
      before = omega arith;
      begins = inr (omega arith, let last : suc at - 1 ≡ at = omega arith in ap (λ k. slice_index text k) last ∙ newline);
      none = λ k from below same. let no : ⊥ = omega (arith, from, below) in no;
    },
  )
  | inr other ↦ let on = line_begins text at in (
    on.0,
    record {
      before = omega (arith, on.1.before);
      begins = on.1.begins;
      none = λ k from below same. elim (cases_lt k at) [
        | inl early ↦ on.1.none k from early same
        | inr late ↦ let is : k ≡ at = omega (arith, late, below) in other (subst (λ j. slice_index text j ≡ 10) is same)
      ];
    },
  )
]

pub place_there : (text : List ℕ) (at : ℕ) → (place : Place) × IsPlace text at place
place_there text at = let on = line_begins text at in (
  record { line = count_by (λ b. b == 10) (take at text) + 1; column = length (chars (slice_range text on.0 at)) + 1 },
  record {
    from = on.0;
    begins = on.1;
    line = refl;
    column = refl;
  },
)
