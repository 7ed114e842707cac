-- All nodes of a graph.
use Rattle.std.proofs.Common.{◌≡◌, ℕ, ◌+◌, ◌<◌, ◌++◌, List, [], ◌∷◌, length, All, sym, subst, ap, ◌∙◌, arith}
use Rattle.std.specs.List.{range_with_len}
use Rattle.std.proofs.lemmas.List.{map-id}
use Rattle.std.proofs.lemmas.List.FromFn.{get_or-range_with_len, length-range_with_len, map-range_with_len_more}

pub range_more : (n : ℕ) → range_with_len 0 (n + 1) ≡ range_with_len 0 n ++ n ∷ []
range_more n =
    sym (map-id (range_with_len 0 (n + 1))) ∙ map-range_with_len_more (λ x. x) 0 n n (omega arith)
    ∙ ap (λ xs. xs ++ n ∷ []) (map-id (range_with_len 0 n))

pub range_within : (n : ℕ) → All (λ node. node < n) (range_with_len 0 n)
range_within n k d lt =
    let below : k < n = omega (arith, lt, length-range_with_len 0 n) in omega (arith, below, get_or-range_with_len 0 n k d below)

-- the nodes below the count are nodes
pub starts_within : (lists : List (List ℕ)) (count : ℕ) → count ≡ length lists → All (λ start. start < length lists) (range_with_len 0 count)
starts_within lists count is = subst (λ n. All (λ start. start < n) (range_with_len 0 count)) is (range_within count)
