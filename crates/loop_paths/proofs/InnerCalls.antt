-- What the calls inside groups are.
use Rattle.std.proofs.Common.{◌≡◌, inl, inr, ℕ, ◌<◌, Bool, true, cond, eqb, List, [], ◌∷◌, length, get_or, sym, ap, ◌∙◌, arith, subst}
use Rattle.std.specs.Prelude.{Contains}
use Rattle.std.specs.List.{filter}
use Rattle.std.proofs.lemmas.Bool.{cond_both, cases_lt, eq-eqb}
use Rattle.std.proofs.lemmas.List.{get_or_past}
use Rattle.std.proofs.lemmas.List.FromFn.{get_or-map-range_with_len, length-map-range_with_len}
use Rattle.std.proofs.lemmas.List.Elements.{All-contains, All-contains_itself, All-filter, Contains-append_cases, Contains-append_left, Contains-append_right}
use Rattle.graph_law.specs.Graph.{Calls, IsClosed}
use Rattle.loop_paths.specs.Inner.{inner_nodes, inner_lists}

filter_has : (p : ℕ → Bool) (xs : List ℕ) (q : ℕ) → Contains xs q → p q ≡ true → Contains (filter p xs) q
filter_has p [] q has passes = let lt = has.1 in absurd (omega (arith, lt))
filter_has p (x ∷ xs) q has passes =
    elim (Contains-append_cases (x ∷ []) xs q has) as (λ _. Contains (cond (p x) (x ∷ filter p xs) (filter p xs)) q) [
      | inl first ↦
          let is : x ≡ q = alone x q first in
          rw (ap p is ∙ passes) (Contains-append_left (x ∷ []) (filter p xs) q first)
      | inr later ↦
          let rest : Contains (filter p xs) q = filter_has p xs q later passes in
          cond_both (p x) (x ∷ filter p xs) (filter p xs) (λ (ys : List ℕ). Contains ys q) (λ _. Contains-append_right (x ∷ []) (filter p xs) q rest) (λ _. rest)
    ]
  where
    zero_at : (i : ℕ) → i < 1 → i ≡ 0
    zero_at i lt = omega (arith, lt)

    alone : (n m : ℕ) → Contains (n ∷ []) m → n ≡ m
    alone n m one = sym (ap (λ i. get_or (n ∷ []) i m) (zero_at one.0 one.1)) ∙ one.2

pub inner_list_at : (lists : List (List ℕ)) (places : List ℕ) (p : ℕ) → p < length lists
    → get_or (inner_lists lists places) p [] ≡ inner_nodes places p (get_or lists p [])
inner_list_at lists places p lt =
    get_or-map-range_with_len (λ each. inner_nodes places each (get_or lists each [])) 0 (length lists) p p [] lt (omega arith)

pub length-inner_lists : (lists : List (List ℕ)) (places : List ℕ) → length (inner_lists lists places) ≡ length lists
length-inner_lists lists places = length-map-range_with_len (λ each. inner_nodes places each (get_or lists each [])) 0 (length lists)

-- an inner call is a call
pub inner_call : (lists : List (List ℕ)) (places : List ℕ) (p q : ℕ) → Calls (inner_lists lists places) p q → Calls lists p q
inner_call lists places p q call =
    elim (cases_lt p (length lists)) [
      | inl lt ↦
          let P : List ℕ → Type 0 = λ each. Contains each q in
          let kept : Contains (inner_nodes places p (get_or lists p [])) q = subst P (inner_list_at lists places p lt) call in
          All-contains (Contains (get_or lists p [])) (inner_nodes places p (get_or lists p [])) q
          (All-filter (λ each. eqb (get_or places each 0) (get_or places p 0)) (Contains (get_or lists p [])) (get_or lists p [])
          (All-contains_itself (get_or lists p []))) kept
      | inr past ↦
          let P : List ℕ → Type 0 = λ each. Contains each q in
          let long = length-inner_lists lists places in
          let none : Contains {X = ℕ} [] q = subst P (get_or_past (inner_lists lists places) p [] (omega (arith, past, long))) call in
          let lt = none.1 in absurd (omega (arith, lt))
    ]

-- a call to a node of the same group is an inner call
pub call_inside : (lists : List (List ℕ)) (places : List ℕ) (p q : ℕ) → p < length lists → get_or places q 0 ≡ get_or places p 0
    → Calls lists p q → Calls (inner_lists lists places) p q
call_inside lists places p q lt same call =
    let P : List ℕ → Type 0 = λ each. Contains each q in
    subst P (sym (inner_list_at lists places p lt))
    (filter_has (λ each. eqb (get_or places each 0) (get_or places p 0)) (get_or lists p []) q call (eq-eqb (get_or places q 0) (get_or places p 0) same))

pub inner_closed : (lists : List (List ℕ)) (places : List ℕ) → IsClosed lists → IsClosed (inner_lists lists places)
inner_closed lists places closed p q call =
    let inside : q < length lists = closed p q (inner_call lists places p q call) in
    let long = length-inner_lists lists places in omega (arith, inside, long)
