-- Laws of classes of mutual reach, over any relation of calls.
use Rattle.std.proofs.Common.{◌≡◌, ◌⊎◌, inl, inr, ℕ, ◌<◌, ◌≤◌, List, [], ◌∷◌, ◌++◌, length, get_or, map, refl, subst, sym, arith}
use Rattle.std.proofs.lemmas.Bool.{cases_lt}
use Rattle.std.proofs.lemmas.List.{get_or_append_left, get_or_push, get_or_default, length_push, length-map, get_or-map}
use Rattle.std.proofs.lemmas.List.Elements.{Contains-get_or}
use Rattle.std.specs.Prelude.{All, Contains}
use Rattle.std.specs.List.Sorted.{IsStrictlyIncreasing}
use Rattle.graph_law.specs.Classes.{IsClass, AreClasses, HasMember, group_at, least_member}
use Rattle.graph_law.proofs.ReachLaws.{is_reached_on, reaches_call}
use Rattle.graph_law.proofs.Increasing.{increasing_first, increasing_same}

pub least_is_member : {calls : ℕ → ℕ → Type 0} {class : List ℕ} → IsClass calls class → Contains class (least_member class)
least_is_member {calls} {class} is = Contains-get_or class 0 0 is.inhabited

pub least_is_least : {calls : ℕ → ℕ → Type 0} {class : List ℕ} → IsClass calls class → (p : ℕ) → Contains class p → least_member class ≤ p
least_is_least {calls} {class} is p (k, lt, at) =
    let zero_default : get_or class k p ≡ get_or class k 0 = get_or_default class k p 0 lt in
    omega (arith, increasing_first class is.ascending k lt, zero_default, at)

-- a class that holds a member of another holds its least member
least_in_other : {calls : ℕ → ℕ → Type 0} {class other : List ℕ} → IsClass calls class → IsClass calls other
    → (p : ℕ) → Contains class p → Contains other p → Contains other (least_member class)
least_in_other {calls} {class} {other} is second p here there =
    second.whole p (least_member class) there (is.mutual_reach p (least_member class) here (least_is_member is))

-- classes in order of their least members do not share a node
pub classes_apart : {calls : ℕ → ℕ → Type 0} (classes : List (List ℕ))
    → All (IsClass calls) classes → IsStrictlyIncreasing (map least_member classes)
    → (i j p : ℕ) → i < length classes → j < length classes → Contains (group_at classes i) p → Contains (group_at classes j) p → i ≡ j
classes_apart {calls} classes each in_order i j p within inside here there =
    let first : IsClass calls (group_at classes i) = each i [] within in
    let second : IsClass calls (group_at classes j) = each j [] inside in
    let low : least_member (group_at classes j) ≤ least_member (group_at classes i) =
    least_is_least second (least_member (group_at classes i)) (least_in_other first second p here there) in
    let high : least_member (group_at classes i) ≤ least_member (group_at classes j) =
    least_is_least first (least_member (group_at classes j)) (least_in_other second first p there here) in
    let long : length (map least_member classes) ≡ length classes = length-map classes least_member in
    let at_first : get_or (map least_member classes) i 0 ≡ least_member (group_at classes i) = get_or-map least_member classes i [] 0 within in
    let at_second : get_or (map least_member classes) j 0 ≡ least_member (group_at classes j) = get_or-map least_member classes j [] 0 inside in
    increasing_same (map least_member classes) in_order i j (omega (arith, long, within)) (omega (arith, long, inside))
    (omega (arith, at_first, at_second, low, high))

-- one more group at the end
pub HasMember-push_left : (groups : List (List ℕ)) (group : List ℕ) (p : ℕ) → HasMember groups p → HasMember (groups ++ group ∷ []) p
HasMember-push_left groups group p has =
    let at : get_or (groups ++ group ∷ []) has.place [] ≡ get_or groups has.place [] =
    get_or_append_left groups (group ∷ []) [] has.place has.within in
    let P : List ℕ → Type 0 = λ each. Contains each p in
    record { place = has.place; within = omega (arith, length_push groups group, has.within); member = subst P (sym at) has.member }

pub HasMember-push : (groups : List (List ℕ)) (group : List ℕ) (p : ℕ) → Contains group p → HasMember (groups ++ group ∷ []) p
HasMember-push groups group p member =
    let P : List ℕ → Type 0 = λ each. Contains each p in
    record {
      place = length groups;
      within = omega (arith, length_push groups group);
      member = subst P (sym (get_or_push groups group [] (length groups) refl)) member;
    }

pub HasMember-push_cases : (groups : List (List ℕ)) (group : List ℕ) (p : ℕ) → HasMember (groups ++ group ∷ []) p
    → HasMember groups p ⊎ Contains group p
HasMember-push_cases groups group p has =
    let P : List ℕ → Type 0 = λ each. Contains each p in
    elim (cases_lt has.place (length groups)) [
      | inl lt ↦
          inl (record { place = has.place; within = lt; member = subst P (get_or_append_left groups (group ∷ []) [] has.place lt) has.member })
      | inr le ↦
          let last : length groups ≡ has.place = omega (arith, le, has.within, length_push groups group) in
          inr (subst P (get_or_push groups group [] has.place last) has.member)
    ]

-- what a member calls is a member
pub HasMember-call : {calls : ℕ → ℕ → Type 0} {starts : List ℕ} {classes : List (List ℕ)} → AreClasses calls starts classes
    → (p q : ℕ) → HasMember classes p → calls p q → HasMember classes q
HasMember-call {calls} {starts} {classes} are p q has call =
    are.all q (is_reached_on calls starts p q (are.reached p has) (reaches_call calls p q call))
