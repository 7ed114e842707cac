-- The place of an offset, a byte further.
use Rattle.std.proofs.Common.{◌≡◌, ◌≢◌, ℕ, ◌+◌, ◌-◌, ◌<◌, ◌≤◌, ◌==◌, List, [], ◌∷◌, ◌++◌, length, true, false, take, drop, slice_range, get_or, inl, inr, ap, sym, ◌∙◌, subst, refl, arith}
use Rattle.std.specs.Prelude.{chars, count_by}
use Rattle.std.specs.Str.{IsUtf8, IsCharBoundary}
use Rattle.std.proofs.lemmas.Bool.{cases_lt}
use Rattle.std.proofs.lemmas.Bool.Decides.{nat_tests}
use Rattle.std.proofs.lemmas.List.{get_or-drop, get_or-take, length-drop, length-take, drop-take, take_more}
use Rattle.std.proofs.lemmas.List.Sums.{count_by_more_yes, count_by_more_no, count_by-le-length}
use Rattle.std.proofs.lemmas.Str.{IsUtf8-drop, IsCharBoundary-after_ascii, IsCharBoundary-start}
use Rattle.prolog_tokens.specs.declared.token.Place.{Place}
use Rattle.prolog_tokens.specs.Places.{IsOffset, BeginsLine, IsPlace, IsCounted, ArePlaces, IsAscending, begins_character}
use Rattle.prolog_tokens.proofs.Characters.{begun_chars}

pub counted_first : (bytes : List ℕ) → IsCounted bytes 0 1 1
counted_first bytes = record {
  from = 0;
  begins = record { before = omega arith; begins = inl refl; none = λ k from below. absurd (omega arith) };
  line_is = refl;
  column_is = refl;
}

pub counted_newline : (bytes : List ℕ) (at line column : ℕ) → at < length bytes → get_or bytes at 0 ≡ 10 → IsCounted bytes at line column → IsCounted bytes (at + 1) (line + 1) 1
counted_newline bytes at line column lt is c =
    let back : at + 1 - 1 ≡ at = omega arith in
    let more : count_by (λ b. b == 10) (take (at + 1) bytes) ≡ count_by (λ b. b == 10) (take at bytes) + 1 =
    count_by_more_yes (λ b. b == 10) bytes at 0 lt (ap (λ b. b == 10) is) in
    let nothing : at + 1 - (at + 1) ≡ 0 = omega arith in
    record {
      from = at + 1;
      begins = record { before = omega arith; begins = inr (omega arith, ap (λ k. get_or bytes k 0) back ∙ is); none = λ k from below. absurd (omega arith) };
      line_is = omega (arith, more, c.line_is);
      column_is = ap (λ n. count_by begins_character (take n (drop (at + 1) bytes)) + 1) (sym nothing);
    }

not_newline : (b : ℕ) → b ≢ 10 → (b == 10) ≡ false
not_newline b ne = grind (arith, nat_tests)

begins_more : (bytes : List ℕ) (from at : ℕ) → get_or bytes at 0 ≢ 10 → BeginsLine bytes from at → BeginsLine bytes from (at + 1)
begins_more bytes from at ne c = record {
  before = omega (arith, c.before);
  begins = c.begins;
  none = λ k le below. elim (cases_lt k at) [
    | inl lt ↦ c.none k le lt
    | inr past ↦ let here : at ≡ k = omega arith in subst (λ n. get_or bytes n 0 ≢ 10) here ne
  ];
}

line_more : (bytes : List ℕ) (at : ℕ) → at < length bytes → get_or bytes at 0 ≢ 10 → count_by (λ b. b == 10) (take (at + 1) bytes) ≡ count_by (λ b. b == 10) (take at bytes)
line_more bytes at lt ne = count_by_more_no (λ b. b == 10) bytes at 0 lt (not_newline (get_or bytes at 0) ne)

-- the byte at a place among those from an earlier one on
from_here : (bytes : List ℕ) (from at : ℕ) → from ≤ at → get_or (drop from bytes) (at - from) 0 ≡ get_or bytes at 0
from_here bytes from at le = get_or-drop from bytes (at - from) 0 ∙ ap (λ n. get_or bytes n 0) (omega arith)

range_more : (bytes : List ℕ) (from at : ℕ) → from ≤ at → count_by begins_character (slice_range bytes from (at + 1)) ≡ count_by begins_character (take (at - from + 1) (drop from bytes))
range_more bytes from at le = let same : at + 1 - from ≡ at - from + 1 = omega arith in ap (λ n. count_by begins_character (take n (drop from bytes))) same

pub counted_begins : (bytes : List ℕ) (at line column : ℕ) → at < length bytes → get_or bytes at 0 ≢ 10 → begins_character (get_or bytes at 0) ≡ true → IsCounted bytes at line column → IsCounted bytes (at + 1) line (column + 1)
counted_begins bytes at line column lt ne begins c =
    let more : count_by begins_character (take (at - c.from + 1) (drop c.from bytes)) ≡ count_by begins_character (slice_range bytes c.from at) + 1 =
    count_by_more_yes begins_character (drop c.from bytes) (at - c.from) 0 (omega (arith, length-drop c.from bytes, c.begins.before)) (ap begins_character (from_here bytes c.from at c.begins.before) ∙ begins) in
    record {
      from = c.from;
      begins = begins_more bytes c.from at ne c.begins;
      line_is = omega (arith, line_more bytes at lt ne, c.line_is);
      column_is = omega (arith, range_more bytes c.from at c.begins.before, more, c.column_is);
    }

pub counted_within : (bytes : List ℕ) (at line column : ℕ) → at < length bytes → get_or bytes at 0 ≢ 10 → begins_character (get_or bytes at 0) ≡ false → IsCounted bytes at line column → IsCounted bytes (at + 1) line column
counted_within bytes at line column lt ne begins c =
    let more : count_by begins_character (take (at - c.from + 1) (drop c.from bytes)) ≡ count_by begins_character (slice_range bytes c.from at) =
    count_by_more_no begins_character (drop c.from bytes) (at - c.from) 0 (omega (arith, length-drop c.from bytes, c.begins.before)) (ap begins_character (from_here bytes c.from at c.begins.before) ∙ begins) in
    record {
      from = c.from;
      begins = begins_more bytes c.from at ne c.begins;
      line_is = omega (arith, line_more bytes at lt ne, c.line_is);
      column_is = omega (arith, range_more bytes c.from at c.begins.before, more, c.column_is);
    }

-- neither number is past the bytes before the offset
pub record Bounds (at line column : ℕ) : Type 0 where
  pub line_le : line ≤ at + 1
  pub column_le : column ≤ at + 1

pub counted_bounds : (bytes : List ℕ) (at line column : ℕ) → at ≤ length bytes → IsCounted bytes at line column → Bounds at line column
counted_bounds bytes at line column le c = record {
  line_le = omega (arith, c.line_is, count_by-le-length (λ b. b == 10) (take at bytes), length-take at bytes);
  column_le = omega (arith, c.column_is, count_by-le-length begins_character (slice_range bytes c.from at), length-take (at - c.from) (drop c.from bytes));
}

-- a line begins with a whole character, or at the end of the text
line_boundary : (bytes : List ℕ) (from at : ℕ) → IsUtf8 (take at bytes) → at ≤ length bytes → BeginsLine bytes from at → IsCharBoundary (take at bytes) from
line_boundary bytes from at utf8 le b = elim b.begins [
  | inl zero_is ↦ subst (IsCharBoundary (take at bytes)) (sym zero_is) (IsCharBoundary-start (take at bytes) utf8)
  | inr behind ↦
      let before : from - 1 < at = omega (arith, behind.0, b.before) in
      let same : get_or (take at bytes) (from - 1) 0 ≡ get_or bytes (from - 1) 0 = get_or-take at bytes (from - 1) 0 before in
      let next : from - 1 + 1 ≡ from = omega (arith, behind.0) in
      subst (IsCharBoundary (take at bytes)) next (IsCharBoundary-after_ascii (take at bytes) (from - 1) utf8 (omega (arith, length-take at bytes)) (omega (arith, same, behind.1)))
]

-- the bytes of the line before the offset are whole characters
line_utf8 : (bytes : List ℕ) (from at : ℕ) → IsOffset bytes at → BeginsLine bytes from at → IsUtf8 (slice_range bytes from at)
line_utf8 bytes from at offset b =
    let range : drop from (take at bytes) ≡ slice_range bytes from at =
    ap (λ n. drop from (take n bytes)) (let whole : at ≡ from + (at - from) = omega (arith, b.before) in whole) ∙ drop-take from (at - from) bytes in
    subst IsUtf8 range (IsUtf8-drop (take at bytes) from offset.utf8 (line_boundary bytes from at offset.utf8 offset.within b))

-- where whole characters stand before the offset, the count is the place
pub counted_place : (bytes : List ℕ) (at : ℕ) (place : Place) → IsOffset bytes at → IsCounted bytes at place.line place.column → IsPlace bytes at place
counted_place bytes at place offset c = record {
  from = c.from;
  begins = c.begins;
  line = c.line_is;
  column = c.column_is ∙ ap (λ n. n + 1) (sym (begun_chars (slice_range bytes c.from at) (line_utf8 bytes c.from at offset c.begins)));
}

no_later : (bytes : List ℕ) (a b at : ℕ) → a < b → BeginsLine bytes a at → BeginsLine bytes b at → ⊥
no_later bytes a b at lt p q = elim q.begins [
  | inl zero_is ↦ omega (arith, zero_is)
  | inr behind ↦ p.none (b - 1) (omega arith) (omega (arith, q.before)) behind.1
]

begins_once : (bytes : List ℕ) (a b at : ℕ) → BeginsLine bytes a at → BeginsLine bytes b at → a ≡ b
begins_once bytes a b at p q = elim (cases_lt a b) [
  | inl lt ↦ absurd (no_later bytes a b at lt p q)
  | inr le ↦ elim (cases_lt b a) [
    | inl lt ↦ absurd (no_later bytes b a at lt q p)
    | inr ge ↦ omega arith
  ]
]

abbrev place_from : ℕ → ℕ → Place
place_from line column = record { line = line; column = column }

-- an offset has one place
pub place_once : (bytes : List ℕ) (at : ℕ) (p q : Place) → IsPlace bytes at p → IsPlace bytes at q → p ≡ q
place_once bytes at p q one two =
    let same : one.from ≡ two.from = begins_once bytes one.from two.from at one.begins two.begins in
    let line : p.line ≡ q.line = one.line ∙ sym two.line in
    let column : p.column ≡ q.column = one.column ∙ ap (λ n. length (chars (slice_range bytes n at)) + 1) same ∙ sym two.column in
    ap (λ n. place_from n p.column) line ∙ ap (λ n. place_from q.line n) column

places_more : (bytes offsets : List ℕ) (places : List Place) (at : ℕ) (place : Place) → ArePlaces bytes offsets places → IsPlace bytes at place → ArePlaces bytes (offsets ++ at ∷ []) (places ++ place ∷ [])
places_more bytes [] [] at place are is = (is, tt)
places_more bytes [] (p ∷ ps) at place are is = absurd are
places_more bytes (o ∷ os) [] at place are is = absurd are
places_more bytes (o ∷ os) (p ∷ ps) at place (one, rest) is = (one, places_more bytes os ps at place rest is)

-- the first of the offsets have their places, and the sweep stands at a place that none of the others is before
pub record HasPlaced (bytes offsets : List ℕ) (count : ℕ) (places : List Place) (at line column : ℕ) : Type 0 where
  pub are : ArePlaces bytes (take count offsets) places
  pub counted : IsCounted bytes at line column
  pub before : (k : ℕ) → count ≤ k → k < length offsets → at ≤ get_or offsets k 0

pub placed_more : (bytes offsets : List ℕ) (i : ℕ) (places : List Place) (at line column : ℕ) (place : Place) → i < length offsets → IsAscending offsets
    → HasPlaced bytes offsets i places at line column → IsOffset bytes (get_or offsets i 0) → IsCounted bytes (get_or offsets i 0) place.line place.column
    → HasPlaced bytes offsets (i + 1) (places ++ place ∷ []) (get_or offsets i 0) place.line place.column
placed_more bytes offsets i places at line column place lt ascending placed offset counted = record {
  are = subst (λ os. ArePlaces bytes os (places ++ place ∷ [])) (sym (take_more offsets i 0 lt))
      (places_more bytes (take i offsets) places (get_or offsets i 0) place placed.are (counted_place bytes (get_or offsets i 0) place offset counted));
  counted = counted;
  before = λ k from below. ascending i k (omega arith) below;
}
