-- A group that another calls reaches fewer nodes.
use Rattle.std.proofs.Common.{◌≡◌, inl, inr, ℕ, zero, suc, ◌<◌, ◌≤◌, ◌+◌, cond, Bool, true, false, List, [], ◌∷◌, ◌++◌, length, get_or, refl, subst, sym, ap, ◌∙◌, arith}
use Rattle.std.proofs.lemmas.Bool.{cases_eq, cases_lt, false≢true}
use Rattle.std.proofs.lemmas.List.{get_or-map, length-map, length_push, map_push}
use Rattle.std.proofs.lemmas.List.Elements.{All-map, All-push, All-weaker, Contains-append_left, Contains-push}
use Rattle.std.proofs.lemmas.List.Sums.{sum_by-cons}
use Rattle.std.proofs.lemmas.List.Sorted.{All-permutation, Contains-permutation, IsPermutation-map, length_permutation}
use Rattle.std.specs.Prelude.{All, Contains, count_by}
use Rattle.std.specs.List.Sorted.{IsPermutation, IsNonDecreasingBy}
use Rattle.graph_law.specs.declared.call_order.Ranked.{Ranked}
use Rattle.graph_law.specs.Reach.{Reaches, IsReached, ReachEachOther}
use Rattle.graph_law.specs.Classes.{IsClass, group_at, GroupCalls}
use Rattle.graph_law.specs.Ranked.{IsRanked, AreRanked, places}
use Rattle.graph_law.specs.CallOrder.{AreApart, IsRank, IsCalleesFirst}
use Rattle.graph_law.proofs.ReachLaws.{reaches_call, reaches_trans, is_reached_start}

counted_true : (xs : List Bool) → count_by (λ (mark : Bool). mark) (true ∷ xs) ≡ 1 + count_by (λ (mark : Bool). mark) xs
counted_true xs = sum_by-cons (λ mark. cond mark 1 0) true xs

counted_false : (xs : List Bool) → count_by (λ (mark : Bool). mark) (false ∷ xs) ≡ 0 + count_by (λ (mark : Bool). mark) xs
counted_false xs = sum_by-cons (λ mark. cond mark 1 0) false xs

-- where each mark of one list stands in the other, there are no more of them
count_le : (xs ys : List Bool) → length xs ≡ length ys → ((k : ℕ) → get_or ys k false ≡ true → get_or xs k false ≡ true)
    → count_by (λ mark. mark) ys ≤ count_by (λ mark. mark) xs
count_le [] [] same kept = omega arith
count_le [] (y ∷ ys) same kept = absurd (omega (arith, same))
count_le (x ∷ xs) [] same kept = absurd (omega (arith, same))
count_le (true ∷ xs) (true ∷ ys) same kept = omega (arith, counted_true xs, counted_true ys, count_le xs ys (omega (arith, same)) (λ k. kept (suc k)))
count_le (true ∷ xs) (false ∷ ys) same kept = omega (arith, counted_true xs, counted_false ys, count_le xs ys (omega (arith, same)) (λ k. kept (suc k)))
count_le (false ∷ xs) (true ∷ ys) same kept = absurd (false≢true (kept 0 refl))
count_le (false ∷ xs) (false ∷ ys) same kept = omega (arith, counted_false xs, counted_false ys, count_le xs ys (omega (arith, same)) (λ k. kept (suc k)))

-- and fewer, where the other has one more
count_lt : (xs ys : List Bool) → length xs ≡ length ys → ((k : ℕ) → get_or ys k false ≡ true → get_or xs k false ≡ true)
    → (m : ℕ) → get_or xs m false ≡ true → (get_or ys m false ≡ true → ⊥)
    → count_by (λ mark. mark) ys < count_by (λ mark. mark) xs
count_lt [] ys same kept m marked none = absurd (false≢true marked)
count_lt (x ∷ xs) [] same kept m marked none = absurd (omega (arith, same))
count_lt (false ∷ xs) (true ∷ ys) same kept m marked none = absurd (false≢true (kept 0 refl))
count_lt (true ∷ xs) (true ∷ ys) same kept zero marked none = absurd (none refl)
count_lt (true ∷ xs) (true ∷ ys) same kept (suc m) marked none =
    omega (arith, counted_true xs, counted_true ys, count_lt xs ys (omega (arith, same)) (λ k. kept (suc k)) m marked none)
count_lt (true ∷ xs) (false ∷ ys) same kept m marked none = omega (arith, counted_true xs, counted_false ys, count_le xs ys (omega (arith, same)) (λ k. kept (suc k)))
count_lt (false ∷ xs) (false ∷ ys) same kept zero marked none = absurd (false≢true marked)
count_lt (false ∷ xs) (false ∷ ys) same kept (suc m) marked none =
    omega (arith, counted_false xs, counted_false ys, count_lt xs ys (omega (arith, same)) (λ k. kept (suc k)) m marked none)

pub rank_falls : {calls : ℕ → ℕ → Type 0} {count : ℕ} {groups : List (List ℕ)} (i j first second : ℕ)
    → All (IsClass calls) groups → AreApart count groups
    → IsRank calls count (group_at groups i) first → IsRank calls count (group_at groups j) second
    → GroupCalls calls groups i j → second < first
rank_falls {calls} {count} {groups} i j first second classes apart is also led =
    let caller_class : IsClass calls (group_at groups i) = classes i [] led.caller_within in
    let callee_class : IsClass calls (group_at groups j) = classes j [] led.callee_within in
    let on : Reaches calls led.caller led.callee = reaches_call calls led.caller led.callee led.call in
    let from_callee : (p : ℕ) → Contains (group_at groups j) p → Reaches calls led.callee p =
    λ p member. (callee_class.mutual_reach led.callee p led.is_callee member).there in
    let kept : (q : ℕ) → get_or also.marks q false ≡ true → get_or is.marks q false ≡ true =
    λ q marked.
    let reached : IsReached calls (group_at groups j) q = also.reached.sound q marked in
    is.reached.all q (record {
      start = led.caller;
      is_start = led.is_caller;
      reaches = reaches_trans on (reaches_trans (from_callee reached.start reached.is_start) reached.reaches);
    }) in
    let marked : get_or is.marks led.caller false ≡ true =
    is.reached.all led.caller (is_reached_start calls (group_at groups i) led.caller led.is_caller) in
    let none : get_or also.marks led.caller false ≡ true → ⊥ =
    λ also_marked.
    let reached : IsReached calls (group_at groups j) led.caller = also.reached.sound led.caller also_marked in
    let both : ReachEachOther calls led.caller led.callee =
    record { there = on; back = reaches_trans (from_callee reached.start reached.is_start) reached.reaches } in
    led.other (apart.once i j led.callee led.caller_within led.callee_within
    (caller_class.whole led.caller led.callee led.is_caller both) led.is_callee) in
    let less : count_by (λ mark. mark) also.marks < count_by (λ mark. mark) is.marks =
    count_lt is.marks also.marks (is.reached.each ∙ sym also.reached.each) kept led.caller marked none in
    omega (arith, less, is.counted, also.counted)

pub ranked_push : (calls : ℕ → ℕ → Type 0) (count : ℕ) (groups : List (List ℕ)) (n : ℕ) (ranked : List Ranked) (one : Ranked)
    → one.place ≡ n → IsRanked calls count groups one
    → AreRanked calls count groups n ranked → AreRanked calls count groups (n + 1) (ranked ++ one ∷ [])
ranked_push calls count groups n ranked one at is are = record {
  each = length_push ranked one ∙ ap (λ k. k + 1) are.each;
  ranks = All-push (IsRanked calls count groups) ranked one are.ranks is;
  all = λ i lt.
      rw (map_push (λ (each : Ranked). each.place) ranked one)
      (elim (cases_eq i n) [
        | inl same ↦ subst (Contains (places ranked ++ one.place ∷ [])) (at ∙ sym same) (Contains-push (places ranked) one.place)
        | inr ne ↦ Contains-append_left (places ranked) (one.place ∷ []) i (are.all i (omega (arith, lt, ne)))
      ]);
}

-- sorted by rank, each group stands after those that it calls
pub order_from_ranks : {calls : ℕ → ℕ → Type 0} {count : ℕ} {groups : List (List ℕ)} (n : ℕ) (ranked sorted : List Ranked)
    → All (IsClass calls) groups → AreApart count groups → n ≡ length groups
    → AreRanked calls count groups n ranked → IsPermutation ranked sorted → IsNonDecreasingBy (λ each. each.rank) sorted
    → IsCalleesFirst calls groups (places sorted)
order_from_ranks {calls} {count} {groups} n ranked sorted classes apart all are moved up =
    let ranks : All (IsRanked calls count groups) sorted = All-permutation (IsRanked calls count groups) ranked sorted moved are.ranks in
    let long : length (places sorted) ≡ length sorted = length-map sorted (λ each. each.place) in
    let none : Ranked = record { place = 0; rank = 0 } in
    let at : (k : ℕ) → k < length sorted → get_or (places sorted) k 0 ≡ (get_or sorted k none).place =
    λ k lt. get_or-map (λ each. each.place) sorted k none 0 lt in
    record {
      each = long ∙ length_permutation ranked sorted moved ∙ are.each ∙ all;
      within = All-map (λ place. place < length groups) (λ (each : Ranked). each.place) sorted
          (All-weaker (IsRanked calls count groups) (λ each. each.place < length groups) (λ each is. is.within) sorted ranks);
      all = λ i lt.
          Contains-permutation (places ranked) (places sorted) i (IsPermutation-map (λ each. each.place) ranked sorted moved)
          (are.all i (omega (arith, all, lt)));
      callees_first = λ k m before inside led.
          let here : k < length sorted = omega (arith, long, before) in
          let there : m < length sorted = omega (arith, long, inside) in
          let called : GroupCalls calls groups (get_or sorted k none).place (get_or sorted m none).place =
          rw (at k here, at m there) at led in
          elim (cases_lt m k) [
            | inl lt ↦ lt
            | inr le ↦
                let falls : (get_or sorted m none).rank < (get_or sorted k none).rank =
                rank_falls (get_or sorted k none).place (get_or sorted m none).place (get_or sorted k none).rank (get_or sorted m none).rank
                classes apart (ranks k none here).rank (ranks m none there).rank called in
                absurd (omega (arith, falls, up k m none le there))
          ];
    }
