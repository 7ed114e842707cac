-- Numbers and names are short in a report.
use Rattle.std.proofs.Common.{◌≡◌, inl, inr, ℕ, zero, suc, ◌+◌, ◌*◌, ◌/◌, ◌%◌, ◌≤◌, Bool, true, false, List, [], ◌∷◌, ◌++◌, All, length, sum_by, sym, subst, length-append, arith}
use Rattle.std.specs.Prelude.{if◌then◌else◌, codes, nat_lt, ◌==◌}
use Rattle.std.specs.Fmt.{decimal, digit_glyph, digits, digits_onto}
use Rattle.std.specs.List.{flat_map}
use Rattle.std.specs.Str.{is_utf8}
use Rattle.std.proofs.lemmas.Bool.{cases_lt}
use Rattle.std.proofs.lemmas.List.{get_or_past}
use Rattle.std.proofs.lemmas.List.Concat.{length-flat_map}
use Rattle.std.proofs.lemmas.List.Sums.{sum_by-cons, sum_by-le, sum_by-le-sum_by}
use Rattle.byte_names.specs.Names.{name_at}
use Rattle.edge_text.specs.declared.limits.TheConstants.{MOST_NAME}
use Rattle.component_report.specs.Json.{hex_digit, json_byte, json_list, json_name, json_string, with_commas}
use Rattle.component_laws.proofs.ShortNames.{IsShort}

-- lists of parts

pub by_test : (b : Bool) (xs ys : List ℕ) (n : ℕ) → length xs ≤ n → length ys ≤ n → length (if b then xs else ys) ≤ n
by_test true xs ys n first second = first
by_test false xs ys n first second = second

pub joined : (xs ys : List ℕ) (m n : ℕ) → length xs ≤ m → length ys ≤ n → length (xs ++ ys) ≤ m + n
joined xs ys m n first second = omega (arith, length-append xs ys, first, second)

most_sum : {X : Type 0} (n : ℕ) (xs : List X) → sum_by (λ x. n) xs ≤ length xs * n
most_sum n xs = sum_by-le (λ x. n) n xs (λ k d lt. (let same : n ≤ n = omega arith in same))

pub flat_short : {X : Type 0} (f : X → List ℕ) (n : ℕ) (xs : List X) → ((x : X) → length (f x) ≤ n) → length (flat_map f xs) ≤ length xs * n
flat_short f n xs each =
    let all : sum_by (λ x. length (f x)) xs ≤ sum_by (λ x. n) xs = sum_by-le-sum_by (λ x. length (f x)) (λ x. n) xs each in
    omega (arith, length-flat_map f xs, all, most_sum n xs)

pub commas_short : {X : Type 0} (shown : X → List ℕ) (n : ℕ) (xs : List X) → ((x : X) → length (shown x) ≤ n)
    → length (with_commas shown xs) ≤ length xs * (n + 1)
commas_short shown n [] each = omega arith
commas_short shown n (x ∷ xs) each =
    let rest : length (flat_map (λ y. codes "," ++ shown y) xs) ≡ sum_by (λ y. length (codes "," ++ shown y)) xs =
    length-flat_map (λ y. codes "," ++ shown y) xs in
    let upto : sum_by (λ y. length (codes "," ++ shown y)) xs ≤ sum_by (λ y. n + 1) xs =
    sum_by-le-sum_by (λ y. length (codes "," ++ shown y)) (λ y. n + 1) xs
    (λ y. let long = length-append (codes ",") (shown y) in let one = each y in omega (arith, long, one)) in
    let more : sum_by (λ y. n + 1) (x ∷ xs) ≡ n + 1 + sum_by (λ y. n + 1) xs = sum_by-cons (λ y. n + 1) x xs in
    let all : sum_by (λ y. n + 1) (x ∷ xs) ≤ length (x ∷ xs) * (n + 1) = most_sum (n + 1) (x ∷ xs) in
    let first : length (with_commas shown (x ∷ xs)) ≤ n + sum_by (λ y. n + 1) xs =
    joined (shown x) (flat_map (λ y. codes "," ++ shown y) xs) n (sum_by (λ y. n + 1) xs) (each x) (omega (arith, rest, upto)) in
    omega (arith, first, more, all)

-- numbers

digits_short : (k base : ℕ) (upper : Bool) (n : ℕ) (acc : List ℕ) → length (digits_onto k base upper n acc) ≤ k + length acc
digits_short zero base upper n acc = omega arith
digits_short (suc k) base upper n acc =
    let glyph : ℕ = digit_glyph upper (n % base) in
    let more = digits_short k base upper (n / base) (glyph ∷ acc) in
    by_test (n / base == 0) (glyph ∷ acc) (digits_onto k base upper (n / base) (glyph ∷ acc)) (suc k + length acc) (omega arith) (omega (arith, more))

pub decimal_short : (n : ℕ) → length (decimal n) ≤ 64
unfolding digits
decimal_short n = digits_short 64 10 false n []

-- names

abbrev pub AreShort : List (List ℕ) → Type 0
AreShort names = (place : ℕ) → IsShort (name_at names place)

pub each_short : (names : List (List ℕ)) → All IsShort names → AreShort names
each_short names all place = elim (cases_lt place (length names)) [
  | inl within ↦ all place [] within
  | inr past ↦ subst IsShort (sym (get_or_past names place [] past)) (let few : 0 ≤ MOST_NAME = omega arith in few)
]

byte_short : (b : ℕ) → length (json_byte b) ≤ 6
byte_short b =
    let escape : List ℕ = codes "\\u00" ++ hex_digit (b / 16) ∷ hex_digit (b % 16) ∷ [] in
    let plain : length (if nat_lt b 32 then escape else b ∷ []) ≤ 6 = by_test (nat_lt b 32) escape (b ∷ []) 6 (omega arith) (omega arith) in
    let slash : length (if b == 92 then codes "\\\\" else if nat_lt b 32 then escape else b ∷ []) ≤ 6 =
    by_test (b == 92) (codes "\\\\") (if nat_lt b 32 then escape else b ∷ []) 6 (omega arith) plain in
    by_test (b == 34) (codes "\\\"") (if b == 92 then codes "\\\\" else if nat_lt b 32 then escape else b ∷ []) 6 (omega arith) slash

string_short : (text : List ℕ) → length (json_string text) ≤ 2 + length text * 6
string_short text =
    let all : length (flat_map json_byte text ++ codes "\"") ≤ length text * 6 + 1 =
    joined (flat_map json_byte text) (codes "\"") (length text * 6) 1 (flat_short json_byte 6 text byte_short) (omega arith) in
    let whole : length (json_string text) ≤ 1 + (length text * 6 + 1) =
    joined (codes "\"") (flat_map json_byte text ++ codes "\"") 1 (length text * 6 + 1) (omega arith) all in
    omega (arith, whole)

numbers_short : (text : List ℕ) → length (json_list decimal text) ≤ 2 + length text * 65
numbers_short text =
    let all : length (with_commas decimal text ++ codes "]") ≤ length text * 65 + 1 =
    joined (with_commas decimal text) (codes "]") (length text * 65) 1 (commas_short decimal 64 text decimal_short) (omega arith) in
    let whole : length (json_list decimal text) ≤ 1 + (length text * 65 + 1) =
    joined (codes "[") (with_commas decimal text ++ codes "]") 1 (length text * 65 + 1) (omega arith) all in
    omega (arith, whole)

pub json_name_short : (name : List ℕ) → length (json_name name) ≤ 2 + length name * 65
json_name_short name =
    let string = string_short name in
    by_test (is_utf8 name) (json_string name) (json_list decimal name) (2 + length name * 65) (omega (arith, string)) (numbers_short name)
