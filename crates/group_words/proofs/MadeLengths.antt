-- A made text is short.
use Rattle.std.proofs.Common.{◌++◌, ◌∷◌, [], ◌+◌, ◌-◌, ◌*◌, ◌/◌, ◌%◌, ◌==◌, ◌&&◌, ◌<◌, ◌≤◌, ℕ, Bool, true, false, nat_le, nat_lt, List, All, length, codes, if◌then◌else◌, subst, sym, arith, length-append}
use Rattle.std.specs.List.{range_with_len}
use Rattle.std.specs.Fmt.{decimal}
use Rattle.std.proofs.lemmas.Fmt.{length-decimal-le}
use Rattle.std.proofs.lemmas.List.Concat.{length-flat_map}
use Rattle.std.proofs.lemmas.List.Elements.{All-from_get_or}
use Rattle.std.proofs.lemmas.List.FromFn.{get_or-range_with_len, length-range_with_len}
use Rattle.std.proofs.lemmas.List.Sums.{sum_by-le}
use Rattle.prolog_tokens.specs.declared.limits.TheConstants.{MOST_BYTES}
use Rattle.group_words.specs.declared.limits.TheConstants.{MOST_MADE}
use Rattle.group_words.specs.Made.{body, calls, in_block, line, made_text, name_at, out_of_block}

-- numbers of at most six digits
abbrev AreLow : List ℕ → Type 0
AreLow [] = Unit {0}
AreLow (n ∷ ns) = (n < 1000000) × AreLow ns

both_low : (ms ns : List ℕ) → AreLow ms → AreLow ns → AreLow (ms ++ ns)
both_low [] ns x y = y
both_low (m ∷ ms) ns x y = (x.0, both_low ms ns x.1 y)

put_together : (xs ys : List ℕ) (m n : ℕ) → length xs ≤ m → length ys ≤ n → length (xs ++ ys) ≤ m + n
put_together xs ys m n x y = omega (arith, x, y, length-append xs ys)

short_name : (n : ℕ) → n < 1000000 → length (name_at n) ≤ 7
short_name n low = put_together (codes "p") (decimal n) 1 6 (omega arith) (length-decimal-le 6 n (omega arith) low (omega (arith, low)))

short_body : (ns : List ℕ) → AreLow ns → length (body ns) ≤ 20
short_body [] low = omega arith
short_body (p ∷ []) low =
    let most : length (codes " :- " ++ name_at p) ≤ 4 + 7 = put_together (codes " :- ") (name_at p) 4 7 (omega arith) (short_name p low.0) in omega (arith, most)
short_body (p ∷ q ∷ more) low =
    put_together ((codes " :- " ++ name_at p) ++ codes ", ") (name_at q) 13 7
    (put_together (codes " :- " ++ name_at p) (codes ", ") 11 2 (put_together (codes " :- ") (name_at p) 4 7 (omega arith) (short_name p low.0)) (omega arith)) (short_name q low.1.0)

low_block : (count i : ℕ) → i < MOST_MADE → AreLow (in_block count i)
low_block count i low = go ((i % 10) == 9) (nat_lt (i + 1) count)
  where
    go : (last there : Bool) → AreLow (if last then (i - 9) ∷ [] else if there then (i + 1) ∷ [] else [])
    go true there = (omega (arith, low), tt)
    go false true = (omega (arith, low), tt)
    go false false = tt

low_outside : (i : ℕ) → i < MOST_MADE → AreLow (out_of_block i)
low_outside i low = go (((i % 10) == 0) && nat_le 10 i)
  where
    go : (first : Bool) → AreLow (if first then (10 * ((i / 10 - 1) / 2)) ∷ [] else [])
    go true = (omega (arith, low), tt)
    go false = tt

short_line : (count i : ℕ) → i < MOST_MADE → length (line count i) ≤ 29
short_line count i low =
    put_together (name_at i ++ body (calls count i)) (codes ".\n") 27 2
    (put_together (name_at i) (body (calls count i)) 7 20 (short_name i (omega (arith, low)))
    (short_body (calls count i) (both_low (in_block count i) (out_of_block i) (low_block count i low) (low_outside i low)))) (omega arith)

pub short_text : (count : ℕ) → count ≤ MOST_MADE → length (made_text count) ≤ MOST_BYTES
short_text count few =
    let each : All (λ i. length (line count i) ≤ 29) (range_with_len 0 count) =
    All-from_get_or (λ i. length (line count i) ≤ 29) (range_with_len 0 count) 0
    (λ i lt.
    let within : i < count = omega (arith, lt, length-range_with_len 0 count) in
    subst (λ k. length (line count k) ≤ 29) (sym (get_or-range_with_len 0 count i 0 within)) (short_line count (0 + i) (omega (arith, within, few)))) in
    omega (arith, few, length-flat_map (line count) (range_with_len 0 count), sum_by-le (λ i. length (line count i)) 29 (range_with_len 0 count) each, length-range_with_len 0 count)
