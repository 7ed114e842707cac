-- Each offset of a text has a line and a column.
use Rattle.std.proofs.Common.{◌≡◌, ◌≢◌, ℕ, zero, suc, ◌+◌, ◌≤◌, ◌<◌, Bool, true, false, List, length, get_or, refl, subst, inl, inr, arith}
use Rattle.std.proofs.lemmas.Bool.{cases_eq}
use Rattle.prolog_tokens.specs.declared.token.Place.{Place}
use Rattle.prolog_tokens.specs.Places.{IsOffset, IsPlace, IsCounted, begins_character}
use Rattle.prolog_tokens.proofs.PlaceSteps.{counted_first, counted_newline, counted_begins, counted_within, counted_place}

-- a line and a column by the bytes before the offset
record HasCount (bytes : List ℕ) (at : ℕ) : Type 0 where
  line : ℕ
  column : ℕ
  is : IsCounted bytes at line column

next_counted : (bytes : List ℕ) (at line column : ℕ) → at < length bytes → get_or bytes at 0 ≢ 10 → (b : Bool) → begins_character (get_or bytes at 0) ≡ b → IsCounted bytes at line column → HasCount bytes (at + 1)
next_counted bytes at line column lt ne true is counted = record { line = line; column = column + 1; is = counted_begins bytes at line column lt ne is counted }
next_counted bytes at line column lt ne false is counted = record { line = line; column = column; is = counted_within bytes at line column lt ne is counted }

counted_next : (bytes : List ℕ) (at : ℕ) → at < length bytes → HasCount bytes at → HasCount bytes (at + 1)
counted_next bytes at lt so_far =
    elim (cases_eq (get_or bytes at 0) 10) [
      | inl is ↦ record { line = so_far.line + 1; column = 1; is = counted_newline bytes at so_far.line so_far.column lt is so_far.is }
      | inr ne ↦ next_counted bytes at so_far.line so_far.column lt ne (begins_character (get_or bytes at 0)) refl so_far.is
    ]

has_count : (bytes : List ℕ) (at : ℕ) → at ≤ length bytes → HasCount bytes at
has_count bytes zero within = record { line = 1; column = 1; is = counted_first bytes }
has_count bytes (suc at) within =
    let next : at + 1 ≡ suc at = omega arith in
    subst (HasCount bytes) next (counted_next bytes at (omega (arith, within)) (has_count bytes at (omega (arith, within))))

pub has_place : (bytes : List ℕ) (at : ℕ) → IsOffset bytes at → (place : Place) × IsPlace bytes at place
has_place bytes at offset =
    let count = has_count bytes at offset.within in
    let place : Place = record { line = count.line; column = count.column } in
    (place, counted_place bytes at place offset count.is)
