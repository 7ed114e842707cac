-- Groups by their heights.
use Rattle.std.proofs.Common.{◌≡◌, ℕ, ◌<◌, ◌≤◌, false, List, length, map, get_or, All, IsPermutation, refl, sym, subst, ◌∙◌, ap, [], ◌∷◌, arith}
use Rattle.std.specs.List.{range_with_len}
use Rattle.std.specs.List.Sorted.{IsSorted}
use Rattle.std.specs.Ordering.{nat_cmp, ordering_then, is_lt}
use Rattle.std.specs.declared.cmp.Ordering.{Ordering}
use Rattle.std.specs.Cmp.{IsTotalOrder}
use Rattle.std.proofs.lemmas.Bool.Decides.{nat_tests}
use Rattle.std.proofs.lemmas.Cmp.{then_total, on_total, nat_cmp_total}
use Rattle.std.proofs.lemmas.List.{get_or-map, length-map}
use Rattle.std.proofs.lemmas.List.Elements.{All-map}
use Rattle.std.proofs.lemmas.List.FromFn.{length-range_with_len, get_or-range_with_len}
use Rattle.std.proofs.lemmas.List.Sorted.{IsPermutation-map, All-permutation, Contains-permutation, sorted_far, ranks_by}
use Rattle.list_laws.proofs.OneOrder.{range_has}
use Rattle.group_release.specs.declared.level.Level.{Level}
use Rattle.group_release.specs.Level.{level_at}
use Rattle.effect_flow.specs.declared.height_order.Stand.{Stand}
use Rattle.effect_flow.specs.Heights.{AreByHeight, height_at}

-- the group at a place with its height
abbrev pub stand_at : List Level → ℕ → Stand
stand_at levels place = record { height = (level_at levels place).height; place = place }

abbrev pub stand_places : List Stand → List ℕ
stand_places stands = map (λ (stand : Stand). stand.place) stands

abbrev pub stand_cmp : Stand → Stand → Ordering
stand_cmp a b = ordering_then (nat_cmp a.height b.height) (nat_cmp a.place b.place)

pub stand_cmp_total : IsTotalOrder stand_cmp
stand_cmp_total = then_total (on_total (λ (s : Stand). s.height) nat_cmp_total) (on_total (λ (s : Stand). s.place) nat_cmp_total)

-- what is not above another is not higher
not_higher : (a b : Stand) → is_lt (stand_cmp b a) ≡ false → a.height ≤ b.height
not_higher a b not_above = grind (arith, nat_tests)

made_of : (levels : List Level) (ns : List ℕ) → stand_places (map (stand_at levels) ns) ≡ ns
made_of levels [] = refl
made_of levels (n ∷ ns) = ap (λ xs. n ∷ xs) (made_of levels ns)

pub by_height : (levels : List Level) (stands sorted : List Stand) → stands ≡ map (stand_at levels) (range_with_len 0 (length levels))
    → IsPermutation stands sorted → IsSorted stand_cmp sorted → AreByHeight levels (stand_places sorted)
by_height levels stands sorted is moved up =
    let n = length levels in
    let place = λ (stand : Stand). stand.place in
    let height = λ (stand : Stand). stand.height in
    let own : Stand → Type 0 = λ stand. stand ≡ stand_at levels stand.place in
    let all_own : All own sorted =
    All-permutation own stands sorted moved (subst (All own) (sym is) (All-map own (stand_at levels) (range_with_len 0 n) (λ k d lt. refl))) in
    let places : IsPermutation (range_with_len 0 n) (stand_places sorted) =
    subst (λ xs. IsPermutation xs (stand_places sorted)) (ap stand_places is ∙ made_of levels (range_with_len 0 n)) (IsPermutation-map place stands sorted moved) in
    let at : (k : ℕ) → k < length sorted → height_at levels (stand_places sorted) k ≡ (get_or sorted k (stand_at levels 0)).height =
    λ k lt.
    ap (λ p. (level_at levels p).height) (get_or-map place sorted k (stand_at levels 0) 0 lt) ∙ sym (ap height (all_own k (stand_at levels 0) lt)) in
    record {
      within =
          All-permutation (λ p. p < n) (range_with_len 0 n) (stand_places sorted) places
          (λ k d lt. let below : k < n = omega (arith, length-range_with_len 0 n, lt) in omega (arith, get_or-range_with_len 0 n k d below, below));
      all = λ p lt. Contains-permutation (range_with_len 0 n) (stand_places sorted) p places (range_has n p lt);
      rising = λ k m lt within.
          let inside : m < length sorted = omega (arith, length-map sorted place, within) in
          let first : k < length sorted = omega (arith, lt, inside) in
          let far =
          sorted_far (λ a b. is_lt (stand_cmp a b)) (ranks_by stand_cmp_total (λ (s : Stand). s)) sorted up k m (stand_at levels 0) (omega (arith, lt)) inside in
          omega (arith, at k first, at m inside, not_higher (get_or sorted k (stand_at levels 0)) (get_or sorted m (stand_at levels 0)) far);
    }
