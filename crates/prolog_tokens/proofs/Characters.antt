-- The characters of a text are as many as the bytes with which one begins.
use Rattle.std.proofs.Common.{◌≡◌, ℕ, suc, ◌+◌, ◌/◌, ◌<◌, ◌≤◌, List, [], ◌∷◌, ◌++◌, length, true, false, inl, inr, ap, sym, ◌∙◌, refl, arith}
use Rattle.std.specs.Prelude.{chars, count_by}
use Rattle.std.specs.Str.{IsUtf8, encode_utf8_all}
use Rattle.std.specs.Char.{encode_utf8}
use Rattle.std.proofs.Math.Bool.{cond}
use Rattle.std.proofs.Math.Utf8.{next}
use Rattle.std.proofs.lemmas.Bool.{cases_lt}
use Rattle.std.proofs.lemmas.Bool.Decides.{nat_tests}
use Rattle.std.proofs.lemmas.List.Sums.{sum_by-append}
use Rattle.std.proofs.lemmas.Str.{chars-encodes, encode_ascii}
use Rattle.prolog_tokens.specs.Places.{begins_character}

begins_low : (b : ℕ) → b < 128 → begins_character b ≡ true
begins_low b h = grind (arith, nat_tests)

begins_lead : (b : ℕ) → 192 ≤ b → begins_character b ≡ true
begins_lead b h = grind (arith, nat_tests)

begins_not : (b : ℕ) → 128 ≤ b → b < 192 → begins_character b ≡ false
begins_not b l h = grind (arith, nat_tests)

encode_two : (c : ℕ) → 128 ≤ c → c < 2048 → encode_utf8 c ≡ (192 + c / 64) ∷ next c ∷ []
unfolding encode_utf8
encode_two c l h = grind (arith, nat_tests)

encode_three : (c : ℕ) → 2048 ≤ c → c < 65536 → encode_utf8 c ≡ (224 + c / 4096) ∷ next (c / 64) ∷ next c ∷ []
unfolding encode_utf8
encode_three c l h = grind (arith, nat_tests)

encode_four : (c : ℕ) → 65536 ≤ c → encode_utf8 c ≡ (240 + c / 262144) ∷ next (c / 4096) ∷ next (c / 64) ∷ next c ∷ []
unfolding encode_utf8
encode_four c l = grind (arith, nat_tests)

-- so many bytes of a list begin characters
abbrev pub begun : List ℕ → ℕ
begun bytes = count_by begins_character bytes

begun_one : (b : ℕ) (rest : List ℕ) → begins_character b ≡ true → begun (b ∷ rest) ≡ suc (begun rest)
begun_one b rest is =
    let split : begun (b ∷ rest) ≡ begun (b ∷ []) + begun rest = sum_by-append (λ x. cond (begins_character x) 1 0) (b ∷ []) rest in
    let one : begun (b ∷ []) ≡ 1 = ap (λ t. 0 + cond t 1 0) is in
    omega (arith, split, one)

begun_none : (b : ℕ) (rest : List ℕ) → begins_character b ≡ false → begun (b ∷ rest) ≡ begun rest
begun_none b rest is =
    let split : begun (b ∷ rest) ≡ begun (b ∷ []) + begun rest = sum_by-append (λ x. cond (begins_character x) 1 0) (b ∷ []) rest in
    let one : begun (b ∷ []) ≡ 0 = ap (λ t. 0 + cond t 1 0) is in
    omega (arith, split, one)

next_none : (x : ℕ) (rest : List ℕ) → begun (next x ∷ rest) ≡ begun rest
next_none x rest = begun_none (next x) rest (begins_not (next x) (omega arith) (omega arith))

one_begins : (c : ℕ) (rest : List ℕ) → begun (encode_utf8 c ++ rest) ≡ suc (begun rest)
one_begins c rest = elim (cases_lt c 128) [
  | inl low ↦ ap (λ l. begun (l ++ rest)) (encode_ascii c low) ∙ begun_one c rest (begins_low c low)
  | inr past ↦ elim (cases_lt c 2048) [
    | inl two ↦ ap (λ l. begun (l ++ rest)) (encode_two c past two) ∙ begun_one (192 + c / 64) (next c ∷ rest) (begins_lead (192 + c / 64) (omega arith)) ∙ ap suc (next_none c rest)
    | inr wide ↦ elim (cases_lt c 65536) [
      | inl three ↦
          ap (λ l. begun (l ++ rest)) (encode_three c wide three)
          ∙ begun_one (224 + c / 4096) (next (c / 64) ∷ next c ∷ rest) (begins_lead (224 + c / 4096) (omega arith))
          ∙ ap suc (next_none (c / 64) (next c ∷ rest) ∙ next_none c rest)
      | inr four ↦
          ap (λ l. begun (l ++ rest)) (encode_four c four)
          ∙ begun_one (240 + c / 262144) (next (c / 4096) ∷ next (c / 64) ∷ next c ∷ rest) (begins_lead (240 + c / 262144) (omega arith))
          ∙ ap suc (next_none (c / 4096) (next (c / 64) ∷ next c ∷ rest) ∙ next_none (c / 64) (next c ∷ rest) ∙ next_none c rest)
    ]
  ]
]

all_begin : (cs : List ℕ) → begun (encode_utf8_all cs) ≡ length cs
all_begin [] = refl
all_begin (c ∷ cs) = one_begins c (encode_utf8_all cs) ∙ ap suc (all_begin cs)

-- as many characters as bytes that begin one
pub begun_chars : (bytes : List ℕ) → IsUtf8 bytes → length (chars bytes) ≡ begun bytes
begun_chars bytes (cs, spells) =
    ap (λ l. length (chars l)) (sym spells.1) ∙ ap length (chars-encodes cs spells.0) ∙ sym (all_begin cs) ∙ ap begun spells.1
