-- A name between quotes is a quoted item of that name.
use Rattle.std.proofs.Common.{◌≡◌, ◌≢◌, ◌⊎◌, inl, inr, ℕ, zero, suc, ◌+◌, ◌*◌, ◌-◌, ◌/◌, ◌%◌, ◌<◌, ◌≤◌, Bool, true, false, List, [], ◌∷◌, ◌++◌, length, Some, get_or, codes, if◌then◌else◌, refl, ap, sym, subst, ◌∙◌, arith, append_assoc, length-append}
use Rattle.std.proofs.lemmas.Bool.{cases_eq, cases_lt, ne_eqb, le-ltb, ltb-true, eqb-true}
use Rattle.std.proofs.lemmas.List.{get_or-append-add, get_or_past, append-nil}
use Rattle.std.proofs.lemmas.Grind.{flat_map-append}
use Rattle.std.proofs.Math.Utf8.{encode, encodes, low_scalar, next}
use Rattle.std.proofs.Math.Dec.{ltb}
use Rattle.std.proofs.lemmas.Str.{encode_ascii, encodes-chars}
use Rattle.std.proofs.Math.Seq.{get_or-append_seam}
use Rattle.std.specs.Prelude.{All, IsUtf8, chars, ◌||◌, ◌==◌, nat_lt}
use Rattle.std.specs.Char.{digit_value, encode_utf8}
use Rattle.std.specs.List.{flat_map}
use Rattle.prolog_tokens.specs.declared.escapes.Mark.TheVariants.{Letter}
use Rattle.prolog_tokens.specs.Digits.{Writes}
use Rattle.prolog_tokens.specs.Escapes.{mark_of, IsCoded, EscapeBy}
use Rattle.prolog_tokens.specs.Quoted.{Part, plain, escape, AreParts, IsQuoted}
use Rattle.prolog_tokens.specs.Values.{part_bytes, IsQuotedText}
use Rattle.prolog_tokens.proofs.Names.{parts_append}
use Rattle.loop_report.specs.Spelled.{hex_digit, quoted_char, quoted_name}

-- a piece of a text stands behind what comes before it, and is the parts that mean the bytes
pub record Spells (piece : List ℕ) (bytes : List ℕ) : Type 0 where
  pub parts : List Part
  pub are : (before after : List ℕ) → AreParts (before ++ (piece ++ after)) 39 (length before) parts (length before + length piece)
  pub is : bytes ≡ flat_map (part_bytes 39) parts

-- two pieces, one after the other
spells_both : (p q bytes more : List ℕ) → Spells p bytes → Spells q more → Spells (p ++ q) (bytes ++ more)
spells_both p q bytes more first second = record {
  parts = first.parts ++ second.parts;
  are = λ before after.
      let whole : before ++ (p ++ (q ++ after)) ≡ before ++ ((p ++ q) ++ after) = ap (λ rest. before ++ rest) (sym (append_assoc p q after)) in
      let moved : (before ++ p) ++ (q ++ after) ≡ before ++ ((p ++ q) ++ after) = append_assoc before p (q ++ after) ∙ whole in
      let seam : length (before ++ p) ≡ length before + length p = length-append before p in
      let ends : length (before ++ p) + length q ≡ length before + length (p ++ q) = omega (arith, length-append before p, length-append p q) in
      let one : AreParts (before ++ ((p ++ q) ++ after)) 39 (length before) first.parts (length before + length p) =
      subst (λ text. AreParts text 39 (length before) first.parts (length before + length p)) whole (first.are before (q ++ after)) in
      let two : AreParts (before ++ ((p ++ q) ++ after)) 39 (length (before ++ p)) second.parts (length (before ++ p) + length q) =
      subst (λ text. AreParts text 39 (length (before ++ p)) second.parts (length (before ++ p) + length q)) moved (second.are (before ++ p) after) in
      let three : AreParts (before ++ ((p ++ q) ++ after)) 39 (length before + length p) second.parts (length (before ++ p) + length q) =
      subst (λ n. AreParts (before ++ ((p ++ q) ++ after)) 39 n second.parts (length (before ++ p) + length q)) seam two in
      let four : AreParts (before ++ ((p ++ q) ++ after)) 39 (length before + length p) second.parts (length before + length (p ++ q)) =
      subst (λ n. AreParts (before ++ ((p ++ q) ++ after)) 39 (length before + length p) second.parts n) ends three in
      parts_append (before ++ ((p ++ q) ++ after)) 39 (length before) first.parts (length before + length p) second.parts (length before + length (p ++ q)) one four;
  is = ap (λ xs. xs ++ more) first.is ∙ ap (λ ys. flat_map (part_bytes 39) first.parts ++ ys) second.is ∙ sym (flat_map-append (part_bytes 39) first.parts second.parts);
}

-- no piece
spells_none : Spells [] []
spells_none = record { parts = []; are = λ before after. (omega arith); is = refl }

moved : (text : List ℕ) (m n : ℕ) → m ≡ n → get_or text m 0 ≡ get_or text n 0
moved text m n is = ap (λ k. get_or text k 0) is

-- the byte at a place of a piece
byte_of : (before piece after : List ℕ) (k : ℕ) → get_or (before ++ (piece ++ after)) (length before + k) 0 ≡ get_or (piece ++ after) k 0
byte_of before piece after k = get_or-append-add before (piece ++ after) k 0

first_byte : (before piece after : List ℕ) → get_or (before ++ (piece ++ after)) (length before) 0 ≡ get_or (piece ++ after) 0 0
first_byte before piece after = moved (before ++ (piece ++ after)) (length before) (length before + 0) (omega arith) ∙ byte_of before piece after 0

piece_within : (before piece after : List ℕ) → length before + length piece ≤ length (before ++ (piece ++ after))
piece_within before piece after = omega (arith, length-append before (piece ++ after), length-append piece after)

-- a byte that stands for itself
spells_plain : (x : ℕ) → x ≢ 39 → x ≢ 92 → Spells (x ∷ []) (x ∷ [])
spells_plain x no_quote no_backslash = record {
  parts = plain x ∷ [];
  are = λ before after.
      (length before + 1, record { within = piece_within before (x ∷ []) after; by = (first_byte before (x ∷ []) after, no_quote, no_backslash, refl) }, refl);
  is = refl;
}

spells_bytes : (xs : List ℕ) → All (λ x. (x ≢ 39) × (x ≢ 92)) xs → Spells xs xs
spells_bytes [] all = spells_none
spells_bytes (x ∷ xs) all =
    spells_both (x ∷ []) xs (x ∷ []) xs (spells_plain x (all 0 0 (omega arith)).0 (all 0 0 (omega arith)).1) (spells_bytes xs (λ k d lt. all (suc k) d (omega (arith, lt))))

-- an escape of two bytes
spells_letter : (x c : ℕ) → mark_of x ≡ Letter c → Spells (92 ∷ x ∷ []) (encode_utf8 c)
spells_letter x c mark = record {
  parts = escape (Some c) ∷ [];
  are = λ before after.
      let text : List ℕ = before ++ ((92 ∷ x ∷ []) ++ after) in
      let second : get_or text (length before + 1) 0 ≡ x = byte_of before (92 ∷ x ∷ []) after 1 in
      let by : EscapeBy text (length before) (Some c) (length before + 2) (mark_of (get_or text (length before + 1) 0)) =
      subst (λ m. EscapeBy text (length before) (Some c) (length before + 2) m) (sym (ap mark_of second ∙ mark)) (refl, refl) in
      (length before + 2, record { within = piece_within before (92 ∷ x ∷ []) after; by = record { backslash = first_byte before (92 ∷ x ∷ []) after; by = by } }, refl);
  is = sym (append-nil (encode_utf8 c));
}

-- a hexadecimal digit has its value
digit_reads : (n : ℕ) → n < 16 → digit_value (hex_digit n) ≡ n
digit_reads zero lt = refl
digit_reads (suc zero) lt = refl
digit_reads (suc (suc zero)) lt = refl
digit_reads (suc (suc (suc zero))) lt = refl
digit_reads (suc (suc (suc (suc zero)))) lt = refl
digit_reads (suc (suc (suc (suc (suc zero))))) lt = refl
digit_reads (suc (suc (suc (suc (suc (suc zero)))))) lt = refl
digit_reads (suc (suc (suc (suc (suc (suc (suc zero))))))) lt = refl
digit_reads (suc (suc (suc (suc (suc (suc (suc (suc zero)))))))) lt = refl
digit_reads (suc (suc (suc (suc (suc (suc (suc (suc (suc zero))))))))) lt = refl
digit_reads (suc (suc (suc (suc (suc (suc (suc (suc (suc (suc zero)))))))))) lt = refl
digit_reads (suc (suc (suc (suc (suc (suc (suc (suc (suc (suc (suc zero))))))))))) lt = refl
digit_reads (suc (suc (suc (suc (suc (suc (suc (suc (suc (suc (suc (suc zero)))))))))))) lt = refl
digit_reads (suc (suc (suc (suc (suc (suc (suc (suc (suc (suc (suc (suc (suc zero))))))))))))) lt = refl
digit_reads (suc (suc (suc (suc (suc (suc (suc (suc (suc (suc (suc (suc (suc (suc zero)))))))))))))) lt = refl
digit_reads (suc (suc (suc (suc (suc (suc (suc (suc (suc (suc (suc (suc (suc (suc (suc zero))))))))))))))) lt = refl
digit_reads (suc (suc (suc (suc (suc (suc (suc (suc (suc (suc (suc (suc (suc (suc (suc (suc n)))))))))))))))) lt = absurd (omega (arith, lt))

two_digits : (text : List ℕ) (a d e : ℕ) → a + 2 ≤ length text → d < 16 → e < 16 → get_or text a 0 ≡ hex_digit d → get_or text (a + 1) 0 ≡ hex_digit e
    → Writes 16 text a (a + 2) (d * 16 + e)
two_digits text a d e within high low first second = record {
  digits = record {
    some = omega arith;
    within = within;
    digits = λ k from below. elim (cases_eq k a) [
      | inl is ↦ omega (arith, ap (λ n. digit_value (get_or text n 0)) is, ap digit_value first, digit_reads d high, high)
      | inr ne ↦
          let last : k ≡ a + 1 = omega (arith, from, below, ne) in
          omega (arith, ap (λ n. digit_value (get_or text n 0)) last, ap digit_value second, digit_reads e low, low)
    ];
  };
  count = 2;
  ends = refl;
  is =
      let here : get_or text (a + 0) 0 ≡ hex_digit d = moved text (a + 0) a (omega arith) ∙ first in
      omega (arith, ap digit_value here, digit_reads d high, ap digit_value second, digit_reads e low);
}

-- a character below 256 as two digits between `\x` and a backslash
abbrev coded : ℕ → List ℕ
coded c = codes "\\x" ++ hex_digit (c / 16) ∷ hex_digit (c % 16) ∷ codes "\\"

spells_coded : (c : ℕ) → c < 256 → Spells (coded c) (encode_utf8 c)
spells_coded c small = record {
  parts = escape (Some c) ∷ [];
  are = λ before after.
      let text : List ℕ = before ++ (coded c ++ after) in
      let a : ℕ = length before in
      let within : a + 5 ≤ length text = piece_within before (coded c) after in
      let mark : get_or text (a + 1) 0 ≡ 120 = byte_of before (coded c) after 1 in
      let first : get_or text (a + 2) 0 ≡ hex_digit (c / 16) = byte_of before (coded c) after 2 in
      let second : get_or text (a + 2 + 1) 0 ≡ hex_digit (c % 16) = moved text (a + 2 + 1) (a + 3) (omega arith) ∙ byte_of before (coded c) after 3 in
      let close : get_or text (a + 4) 0 ≡ 92 = byte_of before (coded c) after 4 in
      let high : c / 16 < 16 = omega (arith, small) in
      let low : c % 16 < 16 = omega arith in
      let writes : Writes 16 text (a + 2) (a + 2 + 2) (c / 16 * 16 + c % 16) =
      two_digits text (a + 2) (c / 16) (c % 16) (omega (arith, within)) high low first second in
      let value : c / 16 * 16 + c % 16 ≡ c = omega arith in
      let ended : a + 2 + 2 ≡ a + 4 = omega arith in
      let whole : Writes 16 text (a + 2) (a + 4) c = subst (λ n. Writes 16 text (a + 2) (a + 4) n) value (subst (λ n. Writes 16 text (a + 2) n (c / 16 * 16 + c % 16)) ended writes) in
      let is_coded : IsCoded 16 text (a + 2) (Some c) (a + 5) =
      record { close = a + 4; number = c; writes = whole; backslash = close; ends = omega arith; is = refl; scalar = low_scalar c (omega (arith, small)) } in
      let by : EscapeBy text a (Some c) (a + 5) (mark_of (get_or text (a + 1) 0)) = subst (λ m. EscapeBy text a (Some c) (a + 5) m) (sym (ap mark_of mark)) is_coded in
      (a + 5, record { within = within; by = record { backslash = first_byte before (coded c) after; by = by } }, refl);
  is = sym (append-nil (encode_utf8 c));
}

-- past the characters that have escapes of their own
past_three : (c : ℕ) → c ≢ 39 → c ≢ 92 → c ≢ 10 → quoted_char c ≡ (if nat_lt c 32 || (c == 127) then coded c else encode_utf8 c)
past_three c quote backslash newline = rw (ne_eqb c 39 quote) (rw (ne_eqb c 92 backslash) (rw (ne_eqb c 10 newline) refl))

-- a byte that is neither the quote nor a backslash
abbrev Stands : ℕ → Type 0
Stands x = (x ≢ 39) × (x ≢ 92)

all_cons : (x : ℕ) (xs : List ℕ) → Stands x → All Stands xs → All Stands (x ∷ xs)
all_cons x xs first rest zero d lt = first
all_cons x xs first rest (suc k) d lt = rest k d (omega (arith, lt))

all_none : All Stands []
all_none k d lt = absurd (omega (arith, lt))

all_wide : (x : ℕ) (xs : List ℕ) → 128 ≤ x → All Stands xs → All Stands (x ∷ xs)
all_wide x xs wide rest = all_cons x xs (λ is. omega (arith, wide, is), λ is. omega (arith, wide, is)) rest

all_either : (b : Bool) (xs ys : List ℕ) → All Stands xs → All Stands ys → All Stands (if b then xs else ys)
all_either true xs ys first second = first
all_either false xs ys first second = second

last : (c : ℕ) → All Stands (next c ∷ [])
last c = all_wide (next c) [] (omega arith) all_none

last_two : (c : ℕ) → All Stands (next (c / 64) ∷ next c ∷ [])
last_two c = all_wide (next (c / 64)) (next c ∷ []) (omega arith) (last c)

-- the bytes of a character past ASCII
wide_bytes : (c : ℕ) → 128 ≤ c → All Stands (encode c)
unfolding encode
wide_bytes c wide =
    rw (le-ltb c 128 wide)
    (all_either (ltb c 2048) ((192 + c / 64) ∷ next c ∷ []) (if ltb c 65536 then (224 + c / 4096) ∷ next (c / 64) ∷ next c ∷ [] else (240 + c / 262144) ∷ next (c / 4096) ∷ next (c / 64) ∷ next c ∷ [])
    (all_wide (192 + c / 64) (next c ∷ []) (omega arith) (last c))
    (all_either (ltb c 65536) ((224 + c / 4096) ∷ next (c / 64) ∷ next c ∷ []) ((240 + c / 262144) ∷ next (c / 4096) ∷ next (c / 64) ∷ next c ∷ [])
    (all_wide (224 + c / 4096) (next (c / 64) ∷ next c ∷ []) (omega arith) (last_two c))
    (all_wide (240 + c / 262144) (next (c / 4096) ∷ next (c / 64) ∷ next c ∷ []) (omega arith) (all_wide (next (c / 4096)) (next (c / 64) ∷ next c ∷ []) (omega arith) (last_two c)))))

just_one : (k d : ℕ) → k < 1 → (c : ℕ) → c ≢ 39 → c ≢ 92 → (get_or (c ∷ []) k d ≢ 39) × (get_or (c ∷ []) k d ≢ 92)
just_one zero d lt c no_quote no_backslash = (no_quote, no_backslash)
just_one (suc k) d lt c no_quote no_backslash = absurd (omega (arith, lt))

own_bytes : (c : ℕ) → c ≢ 39 → c ≢ 92 → All Stands (encode_utf8 c)
own_bytes c no_quote no_backslash = elim (cases_lt c 128) [
  | inl ascii ↦ subst (λ xs. All Stands xs) (sym (encode_ascii c ascii)) (λ k d lt. just_one k d lt c no_quote no_backslash)
  | inr wide ↦ wide_bytes c wide
]

either_true : (a b : Bool) → (a || b) ≡ true → (a ≡ true) ⊎ (b ≡ true)
either_true true b is = inl refl
either_true false b is = inr is

control_small : (c : ℕ) → (nat_lt c 32 || (c == 127)) ≡ true → c < 256
control_small c is = elim (either_true (nat_lt c 32) (c == 127) is) [ inl low ↦ omega (arith, ltb-true c 32 low) | inr last ↦ omega (arith, eqb-true c 127 last) ]

spells_by : (c : ℕ) (control : Bool) → (control ≡ true → c < 256) → c ≢ 39 → c ≢ 92 → Spells (if control then coded c else encode_utf8 c) (encode_utf8 c)
spells_by c true small no_quote no_backslash = spells_coded c (small refl)
spells_by c false small no_quote no_backslash = spells_bytes (encode_utf8 c) (own_bytes c no_quote no_backslash)

spells_past : (c : ℕ) → c ≢ 39 → c ≢ 92 → c ≢ 10 → Spells (quoted_char c) (encode_utf8 c)
spells_past c quote backslash newline =
    subst (λ xs. Spells xs (encode_utf8 c)) (sym (past_three c quote backslash newline))
    (spells_by c (nat_lt c 32 || (c == 127)) (control_small c) quote backslash)

-- each character between quotes means itself
spells_char : (c : ℕ) → Spells (quoted_char c) (encode_utf8 c)
spells_char c = elim (cases_eq c 39) [
  | inl is ↦ subst (λ n. Spells (quoted_char n) (encode_utf8 n)) (sym is) (spells_letter 39 39 refl)
  | inr quote ↦ elim (cases_eq c 92) [
    | inl is ↦ subst (λ n. Spells (quoted_char n) (encode_utf8 n)) (sym is) (spells_letter 92 92 refl)
    | inr backslash ↦ elim (cases_eq c 10) [
      | inl is ↦ subst (λ n. Spells (quoted_char n) (encode_utf8 n)) (sym is) (spells_letter 110 10 refl)
      | inr newline ↦ spells_past c quote backslash newline
    ]
  ]
]

spells_chars : (cs : List ℕ) → Spells (flat_map quoted_char cs) (encodes cs)
spells_chars [] = spells_none
spells_chars (c ∷ cs) = spells_both (quoted_char c) (flat_map quoted_char cs) (encode_utf8 c) (encodes cs) (spells_char c) (spells_chars cs)

-- a name between quotes, which has no other quote

abbrev body : List ℕ → List ℕ
body name = flat_map quoted_char (chars name)

quoted_length : (name : List ℕ) → length (quoted_name name) ≡ length (body name) + 2
quoted_length name = omega (arith, length-append (39 ∷ []) (body name ++ 39 ∷ []), length-append (body name) (39 ∷ []))

closing : (name : List ℕ) → get_or (quoted_name name) (1 + length (body name)) 0 ≡ 39
closing name = moved (quoted_name name) (1 + length (body name)) (length (39 ∷ body name)) (omega arith) ∙ get_or-append_seam (39 ∷ body name) 39 [] 0

parts_between : (name : List ℕ) → AreParts (quoted_name name) 39 1 (spells_chars (chars name)).parts (1 + length (body name))
parts_between name = (spells_chars (chars name)).are (39 ∷ []) (39 ∷ [])

pub is_quoted : (name : List ℕ) → IsQuoted (quoted_name name) 39 0 (length (quoted_name name))
is_quoted name = record {
  opens = refl;
  close = 1 + length (body name);
  lead = record { parts = (spells_chars (chars name)).parts; are = parts_between name };
  closes = closing name;
  alone = λ is.
      let past : get_or (quoted_name name) (1 + length (body name) + 1) 0 ≡ 0 =
      get_or_past (quoted_name name) (1 + length (body name) + 1) 0 (omega (arith, quoted_length name)) in
      omega (arith, is, past);
  ends = omega (arith, quoted_length name);
}

pub is_quoted_text : (name : List ℕ) → IsUtf8 name → IsQuotedText (quoted_name name) 39 0 (length (quoted_name name)) name
is_quoted_text name utf8 =
    let close : 1 + length (body name) ≡ length (quoted_name name) - 1 = omega (arith, quoted_length name) in
    record {
      parts = (spells_chars (chars name)).parts;
      are = subst (AreParts (quoted_name name) 39 1 (spells_chars (chars name)).parts) close (parts_between name);
      is = sym (encodes-chars name utf8) ∙ (spells_chars (chars name)).is;
    }
