-- Texts with zeros behind them are in the order of the texts, but for lengths.
use Rattle.std.proofs.Common.{◌≡◌, ◌<◌, ◌≤◌, ℕ, zero, suc, ◌-◌, List, [], ◌∷◌, ◌++◌, length, get_or, take, drop, replicate, Bool, true, false, cond, nat_lt, ◌==◌, arith, refl, sym, ap, subst, ◌∙◌}
use Rattle.std.specs.Ordering.{MatchOrdering, nat_cmp, ordering_then, ordering_reverse}
use Rattle.std.specs.declared.cmp.Ordering.{Ordering}
use Rattle.std.specs.declared.cmp.Ordering.TheVariants.{Less, Equal, Greater}
use Rattle.std.specs.Cmp.{nat_cmp_is}
use Rattle.std.specs.Cmp.Lexicographic.{slice_cmp}
use Rattle.std.proofs.lemmas.Cmp.{nat_list_cmp_total}
use Rattle.std.proofs.lemmas.List.{length-take, drop-replicate, ext_get_or}
use Rattle.std.proofs.lemmas.Bool.{false_from_ne_true}
use Rattle.std.proofs.lemmas.Slice.Eq.{bytes_eq-Decides}
use Rattle.std.specs.Str.{bytes_eq}
use Rattle.std.proofs.Math.Seq.{take-append_seam}
use Rattle.std.proofs.lemmas.Map.Lookups.{exact_bytes}
use Rattle.prolog_tokens.specs.Padded.{padded}

-- so many items, with zeros behind a shorter list
abbrev filled : ℕ → List ℕ → List ℕ
filled zero xs = []
filled (suc n) [] = 0 ∷ filled n []
filled (suc n) (x ∷ xs) = x ∷ filled n xs

filled_with_none : (n : ℕ) → replicate n 0 ≡ filled n []
filled_with_none zero = refl
filled_with_none (suc n) = ap (λ xs. 0 ∷ xs) (filled_with_none n)

padded_is : (n : ℕ) (xs : List ℕ) → length xs ≤ n → padded n xs ≡ filled n xs
padded_is n [] within = let all : n - 0 ≡ n = omega arith in ap (λ m. replicate m 0) all ∙ filled_with_none n
padded_is zero (x ∷ xs) within = absurd (omega (arith, within))
padded_is (suc n) (x ∷ xs) within =
    let rest : suc n - suc (length xs) ≡ n - length xs = omega arith in
    ap (λ ys. x ∷ ys) (ap (λ m. xs ++ replicate m 0) rest ∙ padded_is n xs (omega (arith, within)))

-- a text that is written over the first of so many zeros
pub written_over : (n : ℕ) (text : List ℕ) → text ++ drop (length text) (replicate n 0) ≡ padded n (take (length text) (text ++ drop (length text) (replicate n 0)))
written_over n text =
    let zeros = drop (length text) (replicate n 0) in
    ap (λ r. text ++ r) (drop-replicate (length text) n 0) ∙ ap (padded n) (sym (take-append_seam text zeros))

then_less : (o p q : Ordering) → (p ≡ Less → q ≡ Less) → ordering_then o p ≡ Less → ordering_then o q ≡ Less
then_less Less p q f e = refl
then_less Equal p q f e = f e
then_less Greater p q f e = e

not_by_test : (less same : Bool) (p : Ordering) → less ≡ false → ordering_then (cond less Less (cond same Equal Greater)) p ≡ Less → p ≡ Less
not_by_test true same p never e = absurd (let clash : true ≡ false = never in cc)
not_by_test false true p never e = e
not_by_test false false p never e = cc

not_first : (x : ℕ) (p : Ordering) → ordering_then (nat_cmp x 0) p ≡ Less → p ≡ Less
not_first x p e = not_by_test (nat_lt x 0) (x == 0) p (search arith) e

never_less : (xs : List ℕ) → slice_cmp nat_cmp xs [] ≡ Less → Greater ≡ Less
never_less [] e = cc
never_less (x ∷ xs) e = e

less_filled : (n : ℕ) (xs ys : List ℕ) → slice_cmp nat_cmp (filled n xs) (filled n ys) ≡ Less → slice_cmp nat_cmp xs ys ≡ Less
less_filled zero xs ys e = cc
less_filled (suc n) [] [] e = less_filled n [] [] e
less_filled (suc n) [] (y ∷ ys) e = refl
less_filled (suc n) (x ∷ xs) [] e = never_less xs (less_filled n xs [] (not_first x _ e))
less_filled (suc n) (x ∷ xs) (y ∷ ys) e = then_less (nat_cmp x y) _ _ (less_filled n xs ys) e

turned : (o back : Ordering) → o ≡ ordering_reverse back → o ≡ Greater → back ≡ Less
turned o Less e g = refl
turned o Equal e g = cc
turned o Greater e g = cc

less_padded : (n : ℕ) (xs ys : List ℕ) → length xs ≤ n → length ys ≤ n → slice_cmp nat_cmp (padded n xs) (padded n ys) ≡ Less → slice_cmp nat_cmp xs ys ≡ Less
less_padded n xs ys first second e = less_filled n xs ys (sym (λ i. slice_cmp nat_cmp (padded_is n xs first i) (padded_is n ys second i)) ∙ e)

-- an order that tells the padded texts apart is that of the texts
padded_tell : (n : ℕ) (xs ys : List ℕ) (o : Ordering) → length xs ≤ n → length ys ≤ n → slice_cmp nat_cmp (padded n xs) (padded n ys) ≡ o → (o ≡ Equal → ⊥)
    → o ≡ slice_cmp nat_cmp xs ys
padded_tell n xs ys Less first second e apart = sym (less_padded n xs ys first second e)
padded_tell n xs ys Equal first second e apart = absurd (apart refl)
padded_tell n xs ys Greater first second e apart =
    let back : slice_cmp nat_cmp ys xs ≡ Less =
    less_padded n ys xs second first (turned _ _ (nat_list_cmp_total.antisymm (padded n xs) (padded n ys)) e) in
    sym (nat_list_cmp_total.antisymm xs ys ∙ ap ordering_reverse back)

abbrev tail_of : List ℕ → List ℕ
tail_of [] = []
tail_of (x ∷ xs) = xs

abbrev first_of : List ℕ → ℕ
first_of [] = 0
first_of (x ∷ xs) = x

same_first : (x y : ℕ) (o : Ordering) → x ≡ y → ordering_then (nat_cmp x y) o ≡ o
same_first x y o same = ap (λ first. ordering_then first o) (sym (nat_cmp_is x y Equal same))

-- how two lengths are, as an order tells it
abbrev AreAs : Ordering → ℕ → ℕ → Type 0
AreAs o j k = MatchOrdering o (j < k) (j ≡ k) (k < j)

one_longer : (o : Ordering) (j k : ℕ) → AreAs o j k → AreAs o (suc j) (suc k)
one_longer Less j k are = omega (arith, are)
one_longer Equal j k are = ap suc are
one_longer Greater j k are = omega (arith, are)

-- of texts that are the same with zeros behind them the lengths tell the order
by_lengths : (n : ℕ) (xs ys : List ℕ) → length xs ≤ n → length ys ≤ n → filled n xs ≡ filled n ys → AreAs (slice_cmp nat_cmp xs ys) (length xs) (length ys)
by_lengths n [] [] first second same = refl
by_lengths n [] (y ∷ ys) first second same = omega arith
by_lengths n (x ∷ xs) [] first second same = omega arith
by_lengths zero (x ∷ xs) (y ∷ ys) first second same = absurd (omega (arith, first))
by_lengths (suc n) (x ∷ xs) (y ∷ ys) first second same =
    subst (λ o. AreAs o (suc (length xs)) (suc (length ys))) (sym (same_first x y (slice_cmp nat_cmp xs ys) (ap first_of same)))
    (one_longer (slice_cmp nat_cmp xs ys) (length xs) (length ys) (by_lengths n xs ys (omega (arith, first)) (omega (arith, second)) (ap tail_of same)))

lengths_tell : (n : ℕ) (xs ys : List ℕ) → length xs ≤ n → length ys ≤ n → slice_cmp nat_cmp (padded n xs) (padded n ys) ≡ Equal
    → nat_cmp (length xs) (length ys) ≡ slice_cmp nat_cmp xs ys
lengths_tell n xs ys first second e =
    sym
    (nat_cmp_is (length xs) (length ys) (slice_cmp nat_cmp xs ys)
    (by_lengths n xs ys first second (sym (padded_is n xs first) ∙ exact_bytes (padded n xs) (padded n ys) e ∙ padded_is n ys second)))

-- of two rooms with zeros behind the texts in them: where they are apart so are the texts, and else the lengths tell

module _ (n : ℕ) (us vs : List ℕ) (j k : ℕ) (wide_first : length us ≡ n) (wide_second : length vs ≡ n) (within_j : j ≤ n) (within_k : k ≤ n)
    (firsts_are : us ≡ padded n (take j us)) (seconds_are : vs ≡ padded n (take k vs)) where
  first_length : length (take j us) ≡ j
  first_length = omega (arith, length-take j us, wide_first, within_j)

  second_length : length (take k vs) ≡ k
  second_length = omega (arith, length-take k vs, wide_second, within_k)

  pub rooms_tell : (o : Ordering) → o ≡ slice_cmp nat_cmp us vs → (o ≡ Equal → ⊥) → o ≡ slice_cmp nat_cmp (take j us) (take k vs)
  rooms_tell o is apart =
      padded_tell n (take j us) (take k vs) o (omega (arith, first_length, within_j)) (omega (arith, second_length, within_k))
      (sym (is ∙ (λ i. slice_cmp nat_cmp (firsts_are i) (seconds_are i)))) apart

  pub room_lengths_tell : slice_cmp nat_cmp us vs ≡ Equal → nat_cmp j k ≡ slice_cmp nat_cmp (take j us) (take k vs)
  room_lengths_tell same =
      (λ i. nat_cmp (sym first_length i) (sym second_length i))
      ∙ lengths_tell n (take j us) (take k vs) (omega (arith, first_length, within_j)) (omega (arith, second_length, within_k))
      (sym (λ i. slice_cmp nat_cmp (firsts_are i) (seconds_are i)) ∙ same)

-- a text beside another one, byte by byte

pub other_byte : (one text : List ℕ) (at : ℕ) → (get_or one at 0 ≡ get_or text at 0 → ⊥) → bytes_eq one text ≡ false
other_byte one text at other = false_from_ne_true (bytes_eq one text) (λ same. other (ap (λ bytes. get_or bytes at 0) ((bytes_eq-Decides one text).0 same)))

pub same_bytes : (one text : List ℕ) → length text ≡ length one → ((at : ℕ) → at < length one → get_or one at 0 ≡ get_or text at 0) → bytes_eq one text ≡ true
same_bytes one text size each = (bytes_eq-Decides one text).1 (ext_get_or 0 one text (sym size) each)
