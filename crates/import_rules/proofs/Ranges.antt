-- Ranges of numbers.
use Rattle.std.proofs.Common.{◌≡◌, ℕ, ◌+◌, ◌<◌, inl, inr, [], ◌∷◌, ◌++◌, length, get_or, sym, ap, ◌∙◌, arith}
use Rattle.std.specs.List.{range_with_len}
use Rattle.std.proofs.lemmas.Bool.{cases_lt}
use Rattle.std.proofs.lemmas.List.{ext_get_or, get_or_append_left, get_or_push, length_push}
use Rattle.std.proofs.lemmas.List.FromFn.{length-range_with_len, get_or-range_with_len}

range_more_from : (a n : ℕ) → range_with_len a (n + 1) ≡ range_with_len a n ++ (a + n) ∷ []
range_more_from a n =
    let long : length (range_with_len a (n + 1)) ≡ length (range_with_len a n ++ (a + n) ∷ []) =
    length-range_with_len a (n + 1) ∙ sym (length_push (range_with_len a n) (a + n) ∙ ap (λ k. k + 1) (length-range_with_len a n)) in
    ext_get_or 0 (range_with_len a (n + 1)) (range_with_len a n ++ (a + n) ∷ []) long (λ k within. each k 0 within)
  where
    each : (k d : ℕ) → k < length (range_with_len a (n + 1)) → get_or (range_with_len a (n + 1)) k d ≡ get_or (range_with_len a n ++ (a + n) ∷ []) k d
    each k d within =
        let below : k < n + 1 = omega (arith, within, length-range_with_len a (n + 1)) in
        get_or-range_with_len a (n + 1) k d below
        ∙ elim (cases_lt k n) [
          | inl before ↦
              sym (get_or_append_left (range_with_len a n) ((a + n) ∷ []) d k (omega (arith, before, length-range_with_len a n)) ∙ get_or-range_with_len a n k d before)
          | inr past ↦
              let here : n ≡ k = omega (arith, past, below) in
              ap (λ j. a + j) (sym here) ∙ sym (get_or_push (range_with_len a n) (a + n) d k (length-range_with_len a n ∙ here))
        ]

pub range_more : (n : ℕ) → range_with_len 0 (n + 1) ≡ range_with_len 0 n ++ n ∷ []
range_more n = let zero_more : 0 + n ≡ n = omega arith in range_more_from 0 n ∙ ap (λ k. range_with_len 0 n ++ k ∷ []) zero_more
