-- The copies are as many as the groups before them: where no later group is a copy, each earlier one is.
use Rattle.std.proofs.Common.{◌≡◌, inl, inr, ℕ, zero, suc, ◌<◌, ◌≤◌, ◌+◌, List, []}
use Rattle.std.proofs.Common.{◌∷◌, ◌++◌, length, get_or, eqb, false, true≢false, subst, sym, refl, ◌∙◌, arith}
use Rattle.std.proofs.lemmas.Bool.{cases_Bool, cases_lt, ne_eqb}
use Rattle.std.proofs.lemmas.List.{get_or_append_left, get_or_default, get_or_push, length_push}
use Rattle.std.proofs.lemmas.List.Elements.{Contains-get_or}
use Rattle.std.proofs.lemmas.Map.Keys.{IsDistinct-from_apart}
use Rattle.std.proofs.lemmas.Map.Steps.{length-le_from_distinct_below}
use Rattle.std.proofs.lemmas.Map.Views.{Contains-from_any, exact_unsigned_eq, list_any-from_Contains}
use Rattle.std.specs.Cmp.{nat_eq_equiv}
use Rattle.std.specs.List.{IsDistinct, list_any}
use Rattle.std.specs.Prelude.{Contains}
use Rattle.graph_law.specs.Classes.{HasMember, IsClass, group_at, least_member}
use Rattle.graph_law.specs.Graph.{Calls}
use Rattle.graph_law.specs.LegalOrder.{IsLegalOrder}
use Rattle.graph_law.proofs.ClassLaws.{least_is_member}
use Rattle.graph_law.proofs.Unique.{class_unique}
use Rattle.group_feed.specs.Copying.{AreCopiedUpTo, AreWithin}
use Rattle.group_feed.specs.Ordered.{AreOrdered}
use Rattle.group_feed.proofs.CopySteps.{class_at, class_there, none_there}

-- no group from one place on, up to another, has a node that is copied
abbrev pub AreNew : ℕ → ℕ → List (List ℕ) → List (List ℕ) → Type 0
AreNew from to groups copies = (i p : ℕ) → from ≤ i → i < to → Contains (group_at groups i) p → HasMember copies p → ⊥

-- nor has the next one, where its first node isn't copied
pub new_more : (lists copies groups : List (List ℕ)) (from n : ℕ) → AreOrdered lists copies → IsLegalOrder (Calls lists) groups → n < length groups
    → (HasMember copies (least_member (group_at groups n)) → ⊥) → AreNew from n groups copies → AreNew from (n + 1) groups copies
new_more lists copies groups from n ordered legal lt away are i p from_i i_lt has there =
    elim (cases_lt i n) [
      | inl first_ones ↦ are i p from_i first_ones has there
      | inr last ↦
          let is : i ≡ n = omega (arith, last, i_lt) in
          none_there copies groups n ordered.legal legal lt away p (subst (λ k. Contains (group_at groups k) p) is has) there
    ]

-- where the first n copies stand among the groups
record AreCopyPlaces (copies groups : List (List ℕ)) (n : ℕ) (places : List ℕ) : Type 0 where
  pub each : length places ≡ n
  pub low : (j : ℕ) → j < n → get_or places j 0 < length copies
  pub within : (j : ℕ) → j < n → get_or places j 0 < length groups
  pub at : (j : ℕ) → j < n → Contains (group_at groups (get_or places j 0)) (least_member (group_at copies j))

module _ (lists copies groups : List (List ℕ)) (ordered : AreOrdered lists copies) (legal : IsLegalOrder (Calls lists) groups)
    (within : AreWithin copies groups)
    (later : AreNew (length copies) (length groups) groups copies) where
  least_there : (k : ℕ) → k < length copies → HasMember copies (least_member (group_at copies k))
  least_there k lt = record { place = k; within = lt; member = least_is_member (class_at k ordered.legal lt) }

  places_of : (k : ℕ) → k ≤ length copies → (places : List ℕ) × AreCopyPlaces copies groups k places
  places_of zero le =
      let none : (j : ℕ) → j < 0 → ⊥ = λ j lt. omega (arith, lt) in
      ([], record { each = refl; low = λ j lt. absurd (none j lt); within = λ j lt. absurd (none j lt); at = λ j lt. absurd (none j lt) })
  places_of (suc k) le =
      let before = places_of k (omega (arith, le)) in
      let places : List ℕ = before.0 in
      let are : AreCopyPlaces copies groups k places = before.1 in
      let each = are.each in
      let k_lt : k < length copies = omega (arith, le) in
      let first : ℕ = least_member (group_at copies k) in
      let there : HasMember groups first = within first (least_there k k_lt) in
      let place : ℕ = there.place in
      let low : place < length copies =
      elim (cases_lt place (length copies)) [ inl lt ↦ lt | inr from ↦ absurd (later place first from there.within there.member (least_there k k_lt)) ] in
      let long : length (places ++ place ∷ []) ≡ length places + 1 = length_push places place in
      let old : (j : ℕ) → j < k → get_or (places ++ place ∷ []) j 0 ≡ get_or places j 0 =
      λ j lt. get_or_append_left places (place ∷ []) 0 j (omega (arith, lt, each)) in
      let new : (j : ℕ) → k ≤ j → j < suc k → get_or (places ++ place ∷ []) j 0 ≡ place =
      λ j from lt. get_or_push places place 0 j (omega (arith, from, lt, each)) in (
        places ++ place ∷ [],
        record {
          each = omega (arith, long, each);
          low = λ j lt.
              elim (cases_lt j k) [
                | inl first_ones ↦ subst (λ n. n < length copies) (sym (old j first_ones)) (are.low j first_ones)
                | inr from ↦ subst (λ n. n < length copies) (sym (new j from lt)) low
              ];
          within = λ j lt.
              elim (cases_lt j k) [
                | inl first_ones ↦ subst (λ n. n < length groups) (sym (old j first_ones)) (are.within j first_ones)
                | inr from ↦ subst (λ n. n < length groups) (sym (new j from lt)) there.within
              ];
          at = λ j lt.
              elim (cases_lt j k) [
                | inl first_ones ↦ subst (λ n. Contains (group_at groups n) (least_member (group_at copies j))) (sym (old j first_ones)) (are.at j first_ones)
                | inr from ↦
                    let last : k ≡ j = omega (arith, from, lt) in
                    subst (λ n. Contains (group_at groups n) (least_member (group_at copies j))) (sym (new j from lt))
                    (subst (λ n. Contains (group_at groups place) (least_member (group_at copies n))) last there.member)
              ];
        },
      )

  -- no two copies stand at one place
  once : (places : List ℕ) → AreCopyPlaces copies groups (length copies) places → (i j : ℕ) → i < length copies → j < length copies
      → get_or places i 0 ≡ get_or places j 0 → i ≡ j
  once places are i j i_lt j_lt same =
      let place : ℕ = get_or places j 0 in
      let group : IsClass (Calls lists) (group_at groups place) = class_at place legal (are.within j j_lt) in
      let copy : IsClass (Calls lists) (group_at copies i) = class_at i ordered.legal i_lt in
      let has_i : Contains (group_at groups place) (least_member (group_at copies i)) =
      subst (λ n. Contains (group_at groups n) (least_member (group_at copies i))) same (are.at i i_lt) in
      let one : group_at groups place ≡ group_at copies i = class_unique group copy (least_member (group_at copies i)) has_i (least_is_member copy) in
      let also : Contains (group_at copies i) (least_member (group_at copies j)) =
      subst (λ g. Contains g (least_member (group_at copies j))) one (are.at j j_lt) in
      ordered.legal.once i j (least_member (group_at copies j)) i_lt j_lt also (least_is_member (class_at j ordered.legal j_lt))

  -- one place more among as many as there are copies is the place of one of them
  no_place_more : (places : List ℕ) → AreCopyPlaces copies groups (length copies) places → (i : ℕ) → i < length copies → list_any (eqb i) places ≡ false → ⊥
  no_place_more places are i lt away =
      let all : List ℕ = places ++ i ∷ [] in
      let each = are.each in
      let long : length all ≡ length places + 1 = length_push places i in
      let old : (j d : ℕ) → j < length copies → get_or all j d ≡ get_or places j 0 =
      λ j d j_lt. get_or_append_left places (i ∷ []) d j (omega (arith, j_lt, each)) ∙ get_or_default places j d 0 (omega (arith, j_lt, each)) in
      let new : (j d : ℕ) → length copies ≤ j → j < length all → get_or all j d ≡ i =
      λ j d from j_lt. get_or_push places i d j (omega (arith, from, j_lt, long, each)) in
      let distinct : IsDistinct eqb all =
      IsDistinct-from_apart eqb all
      (λ a b d before b_lt.
      ne_eqb (get_or all a d) (get_or all b d)
      (λ same.
      let a_lt : a < length copies = omega (arith, before, b_lt, long, each) in
      elim (cases_lt b (length copies)) [
        | inl first_ones ↦
            let equal : a ≡ b = once places are a b a_lt first_ones (sym (old a d a_lt) ∙ same ∙ old b d first_ones) in
            omega (arith, equal, before)
        | inr from ↦
            let is : get_or places a 0 ≡ i = sym (old a d a_lt) ∙ same ∙ new b d from b_lt in
            let member : Contains places i = subst (Contains places) is (Contains-get_or places a 0 (omega (arith, a_lt, each))) in
            true≢false (sym (list_any-from_Contains nat_eq_equiv i places member) ∙ away)
      ])) in
      let few : length all ≤ length copies =
      length-le_from_distinct_below all (length copies) distinct
      (λ q found.
      let has : Contains all q = Contains-from_any exact_unsigned_eq q all found in
      elim (cases_lt has.0 (length copies)) [
        | inl first_ones ↦ (let low = are.low has.0 first_ones in let is = sym (old has.0 0 first_ones) ∙ at_place all q has in omega (arith, low, is))
        | inr from ↦ (let is = sym (new has.0 0 from has.1) ∙ at_place all q has in omega (arith, lt, is))
      ]) in
      omega (arith, few, long, each)
    where
      at_place : (xs : List ℕ) (x : ℕ) (has : Contains xs x) → get_or xs has.0 0 ≡ x
      at_place xs x has = get_or_default xs has.0 0 x has.1 ∙ has.2

  -- all groups before are copied
  pub copied_before : AreCopiedUpTo (length copies) groups copies
  copied_before i p lt has =
      let made = places_of (length copies) (omega arith) in
      elim (cases_Bool (list_any (eqb i) made.0)) [
        | inr away ↦ absurd (no_place_more made.0 made.1 i lt away)
        | inl found ↦
            let at : Contains made.0 i = Contains-from_any exact_unsigned_eq i made.0 found in
            let j : ℕ = at.0 in
            let each = made.1.each in
            let at_lt = at.1 in
            let j_lt : j < length copies = omega (arith, each, at_lt) in
            let is : get_or made.0 j 0 ≡ i = get_or_default made.0 j 0 i at.1 ∙ at.2 in
            let inside : i < length groups = subst (λ n. n < length groups) is (made.1.within j j_lt) in
            let shared : Contains (group_at groups i) (least_member (group_at copies j)) =
            subst (λ n. Contains (group_at groups n) (least_member (group_at copies j))) is (made.1.at j j_lt) in
            class_there copies (group_at groups i) ordered.legal.each (class_at i legal inside) (least_member (group_at copies j)) p shared has
            (least_there j j_lt)
      ]
