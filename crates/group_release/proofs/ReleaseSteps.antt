-- How a group is released.
use Rattle.std.proofs.Common.{◌≡◌, ◌↔◌, inl, inr, ℕ, ◌<◌, ◌≤◌, ◌+◌, Bool, true, false, List, [], ◌∷◌, ◌++◌, length, get_or, nat_eq, subst, sym, ◌∙◌, arith}
use Rattle.std.proofs.lemmas.Bool.{cases_lt}
use Rattle.std.proofs.lemmas.Cmp.{nat_eq_equiv}
use Rattle.std.proofs.lemmas.List.{get_or_append_left, get_or_push, length_push}
use Rattle.std.proofs.lemmas.List.Elements.{All-contains, All-push}
use Rattle.std.proofs.lemmas.List.Sorted.{All-permutation, Contains-permutation, IsNonDecreasingBy-from_sort, IsPermutation-sym, length_permutation}
use Rattle.std.proofs.lemmas.Map.Keys.{IsDistinct-IsPermutation, IsStrictlyIncreasing-from_distinct}
use Rattle.std.specs.List.{IsDistinct}
use Rattle.std.specs.List.Sorted.{IsPermutation, IsSorted, IsStrictlyIncreasing}
use Rattle.std.specs.Ordering.{nat_cmp}
use Rattle.std.specs.Prelude.{All, Contains}
use Rattle.graph_law.specs.Classes.{HasMember, group_at}
use Rattle.graph_law.specs.CallOrder.{AreApart}
use Rattle.graph_law.proofs.ClassLaws.{HasMember-push, HasMember-push_cases, HasMember-push_left}
use Rattle.group_release.specs.Released.{AreReleased, IsNewGroup, ReleasedGroups}
use Rattle.graph_law.specs.Stamp.{IsStamped}
use Rattle.group_release.proofs.FewGroups.{few_groups}

-- distinct members ascend once they are sorted
pub sorted_ascends : (group last : List ℕ) → IsDistinct nat_eq group → IsPermutation group last → IsSorted nat_cmp last → IsStrictlyIncreasing last
sorted_ascends group last distinct moved sorted =
    IsStrictlyIncreasing-from_distinct last (IsNonDecreasingBy-from_sort (λ x. x) last sorted)
    (IsDistinct-IsPermutation nat_eq nat_eq_equiv.symm group last moved distinct)

-- a group in another order is as new
pub new_permuted : {released : ReleasedGroups} {group last : List ℕ} → IsNewGroup released group → IsPermutation group last → IsNewGroup released last
new_permuted {released} {group} {last} is moved = record {
  inhabited = omega (arith, is.inhabited, length_permutation group last moved);
  distinct = IsDistinct-IsPermutation nat_eq nat_eq_equiv.symm group last moved is.distinct;
  below = All-permutation (λ node. node < released.count) group last moved is.below;
  fresh = λ node member. is.fresh node (Contains-permutation last group node (IsPermutation-sym group last moved) member);
}

-- a new group shares no node with the others
apart_more : {released : ReleasedGroups} (group : List ℕ) → AreApart released.count released.groups → IsNewGroup released group
    → AreApart released.count (released.groups ++ group ∷ [])
apart_more {released} group apart is =
    let groups : List (List ℕ) = released.groups in
    let more : List (List ℕ) = groups ++ group ∷ [] in
    let long : length more ≡ length groups + 1 = length_push groups group in
    let before : (i p : ℕ) → i < length groups → Contains (group_at more i) p → Contains (group_at groups i) p =
    λ i p lt member. subst (λ each. Contains each p) (get_or_append_left groups (group ∷ []) [] i lt) member in
    let last : (i p : ℕ) → length groups ≤ i → i < length more → Contains (group_at more i) p → Contains group p =
    λ i p from lt member. subst (λ each. Contains each p) (get_or_push groups group [] i (omega (arith, from, lt, long))) member in
    let not_both : (i p : ℕ) → i < length groups → Contains (group_at more i) p → Contains group p → ⊥ =
    λ i p lt member there. is.fresh p there (record { place = i; within = lt; member = before i p lt member }) in
    record {
      below = λ i p lt member.
          elim (cases_lt i (length groups)) [
            | inl first ↦ apart.below i p first (before i p first member)
            | inr from ↦ All-contains (λ node. node < released.count) group p is.below (last i p from lt member)
          ];
      once = λ i j p lt inside here there.
          elim (cases_lt i (length groups)) [
            | inl first ↦
                elim (cases_lt j (length groups)) [
                  | inl also ↦ apart.once i j p first also (before i p first here) (before j p also there)
                  | inr from ↦ absurd (not_both i p first here (last j p from inside there))
                ]
            | inr from ↦
                elim (cases_lt j (length groups)) [
                  | inl first ↦ absurd (not_both j p first there (last i p from lt here))
                  | inr also ↦ omega (arith, from, also, lt, inside, long)
                ]
          ];
    }

-- one group more is released
pub released_more : {released : ReleasedGroups} (group : List ℕ) → AreReleased released → IsNewGroup released group → IsStrictlyIncreasing group
    → AreReleased (record { count = released.count; groups = released.groups ++ group ∷ [] })
released_more {released} group are is ascending =
    let groups : List (List ℕ) = released.groups in
    let inhabited : All (λ each. 0 < length each) (groups ++ group ∷ []) =
    All-push (λ each. 0 < length each) groups group are.inhabited is.inhabited in
    let apart : AreApart released.count (groups ++ group ∷ []) = apart_more group are.apart is in
    record {
      inhabited = inhabited;
      ascending = All-push IsStrictlyIncreasing groups group are.ascending ascending;
      apart = apart;
      few = few_groups released.count (groups ++ group ∷ []) inhabited apart;
    }

-- the new group's nodes are marked
pub marks_more : (groups : List (List ℕ)) (group : List ℕ) (old new : List Bool)
    → ((p : ℕ) → (get_or old p false ≡ true) ↔ HasMember groups p) → IsStamped group true old new
    → (p : ℕ) → (get_or new p false ≡ true) ↔ HasMember (groups ++ group ∷ []) p
marks_more groups group old new marks is p = (
  λ marked.
      elim (is.kept p false)
      [ inl member ↦ HasMember-push groups group p member | inr same ↦ HasMember-push_left groups group p ((marks p).0 (sym same ∙ marked)) ],
  λ has.
      elim (HasMember-push_cases groups group p has) [
        | inl before ↦
            elim (is.kept p false) [ inl member ↦ is.stamped p false member | inr same ↦ same ∙ (marks p).1 before ]
        | inr member ↦ is.stamped p false member
      ],
)
