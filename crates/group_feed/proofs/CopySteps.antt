-- A released group is copied behind the others, where it isn't there yet.
use Rattle.std.proofs.Common.{◌≡◌, inl, inr, ℕ, ◌<◌, ◌≤◌, ◌+◌, List, [], ◌∷◌, ◌++◌, length, get_or, nat_eq, subst, sym, ap, ◌∙◌, append_assoc, arith}
use Rattle.std.proofs.lemmas.Bool.{cases_lt, ne_eqb}
use Rattle.std.proofs.lemmas.List.{append-nil, get_or_append_left, get_or_default, get_or_push, length_push}
use Rattle.std.proofs.lemmas.List.Elements.{Contains-get_or}
use Rattle.std.proofs.lemmas.List.Sorted.{Contains-permutation, IsPermutation-sym}
use Rattle.std.proofs.lemmas.Map.Keys.{IsDistinct-from_apart}
use Rattle.std.specs.List.Sorted.{IsStrictlyIncreasing}
use Rattle.std.specs.Prelude.{All, Contains}
use Rattle.graph_law.specs.Classes.{HasMember, IsClass, group_at}
use Rattle.graph_law.specs.Graph.{Calls}
use Rattle.graph_law.specs.LegalOrder.{IsLegalOrder, StandsUpTo}
use Rattle.graph_law.proofs.ClassLaws.{HasMember-push, HasMember-push_cases, HasMember-push_left, least_is_member}
use Rattle.graph_law.proofs.Increasing.{increasing_far}
use Rattle.graph_law.proofs.Unique.{class_unique, increasing_unique}
use Rattle.group_release.specs.Released.{IsAppended, IsNewGroup, ReleasedGroups}
use Rattle.group_feed.specs.Copying.{AreCopiedUpTo, AreWithin, IsCopied}
use Rattle.group_feed.specs.Ordered.{AreOrdered}

-- where a member of a class is there, its first is, and where its first is, all are
pub class_there : {calls : ℕ → ℕ → Type 0} (fed : List (List ℕ)) (class : List ℕ) → All (IsClass calls) fed → IsClass calls class → (p q : ℕ) → Contains class p
    → Contains class q → HasMember fed p → HasMember fed q
class_there fed class each is p q has_p has_q there =
    let same : class ≡ group_at fed there.place = class_unique is (each there.place [] there.within) p has_p there.member in
    record { place = there.place; within = there.within; member = subst (λ g. Contains g q) same has_q }

-- the groups of a legal order are classes
pub class_at : {calls : ℕ → ℕ → Type 0} {groups : List (List ℕ)} (i : ℕ) → IsLegalOrder calls groups → i < length groups → IsClass calls (group_at groups i)
class_at i legal lt = legal.each i [] lt

-- no member of a class is there whose first isn't
pub none_there : {calls : ℕ → ℕ → Type 0} (fed groups : List (List ℕ)) (i : ℕ) → IsLegalOrder calls fed → IsLegalOrder calls groups → i < length groups
    → (HasMember fed (get_or (group_at groups i) 0 0) → ⊥) → (p : ℕ) → Contains (group_at groups i) p → HasMember fed p → ⊥
none_there fed groups i ordered legal lt away p has there =
    let is = class_at i legal lt in
    away (class_there fed (group_at groups i) ordered.each is p (get_or (group_at groups i) 0 0) has (least_is_member is) there)

-- the next group of a legal order goes behind those that are there, which have all that stands before it
pub ordered_more : (lists fed groups : List (List ℕ)) (i : ℕ) → AreOrdered lists fed → IsLegalOrder (Calls lists) groups
    → ((p : ℕ) → HasMember groups p → p < length lists) → i < length groups
    → ((j p : ℕ) → j < i → Contains (group_at groups j) p → HasMember fed p)
    → ((p : ℕ) → Contains (group_at groups i) p → HasMember fed p → ⊥) → AreOrdered lists (fed ++ group_at groups i ∷ [])
ordered_more lists fed groups i ordered legal nodes lt before away =
    let group : List ℕ = group_at groups i in
    let all : List (List ℕ) = fed ++ group ∷ [] in
    let long : length all ≡ length fed + 1 = length_push fed group in
    let old : (k : ℕ) → k < length fed → group_at all k ≡ group_at fed k = λ k k_lt. get_or_append_left fed (group ∷ []) [] k k_lt in
    let new : (k : ℕ) → length fed ≤ k → k < length all → group_at all k ≡ group =
    λ k from k_lt. get_or_push fed group [] k (omega (arith, from, k_lt, long)) in
    let there : (k p : ℕ) → k < length fed → Contains (group_at all k) p → HasMember fed p =
    λ k p k_lt has. record { place = k; within = k_lt; member = subst (λ g. Contains g p) (old k k_lt) has } in
    let here : (k p : ℕ) → length fed ≤ k → k < length all → Contains (group_at all k) p → Contains group p =
    λ k p from k_lt has. subst (λ g. Contains g p) (new k from k_lt) has in
    record {
      legal = record {
        each = λ k d k_lt.
            subst (IsClass (Calls lists)) (get_or_default all k [] d k_lt)
            (elim (cases_lt k (length fed)) [
              | inl first ↦ subst (IsClass (Calls lists)) (sym (old k first)) (ordered.legal.each k [] first)
              | inr from ↦ subst (IsClass (Calls lists)) (sym (new k from k_lt)) (class_at i legal lt)
            ]);
        once = λ j k p j_lt k_lt in_j in_k.
            elim (cases_lt j (length fed)) [
              | inl j_first ↦
                  elim (cases_lt k (length fed)) [
                    | inl k_first ↦
                        ordered.legal.once j k p j_first k_first (subst (λ g. Contains g p) (old j j_first) in_j)
                        (subst (λ g. Contains g p) (old k k_first) in_k)
                    | inr k_from ↦ absurd (away p (here k p k_from k_lt in_k) (there j p j_first in_j))
                  ]
              | inr j_from ↦
                  elim (cases_lt k (length fed)) [
                    | inl k_first ↦ absurd (away p (here j p j_from j_lt in_j) (there k p k_first in_k))
                    | inr k_from ↦ omega (arith, long, j_from, k_from, j_lt, k_lt)
                  ]
            ];
        callees_first = λ k p q k_lt in_k call.
            elim (cases_lt k (length fed)) [
              | inl first ↦
                  let stands : StandsUpTo fed k q = ordered.legal.callees_first k p q first (subst (λ g. Contains g p) (old k first) in_k) call in
                  let upto = stands.upto in
                  record {
                    place = stands.place;
                    upto = upto;
                    member = subst (λ g. Contains g q) (sym (old stands.place (omega (arith, upto, first)))) stands.member;
                  }
              | inr from ↦
                  let stands : StandsUpTo groups i q = legal.callees_first i p q lt (here k p from k_lt in_k) call in
                  let upto = stands.upto in
                  elim (cases_lt stands.place i) [
                    | inl earlier ↦
                        let has = before stands.place q earlier stands.member in
                        let has_lt = has.within in
                        record {
                          place = has.place;
                          upto = omega (arith, has_lt, from);
                          member = subst (λ g. Contains g q) (sym (old has.place has_lt)) has.member;
                        }
                    | inr same ↦
                        let is : stands.place ≡ i = omega (arith, upto, same) in
                        record {
                          place = k;
                          upto = omega arith;
                          member = subst (λ g. Contains g q) (sym (new k from k_lt)) (subst (λ m. Contains (group_at groups m) q) is stands.member);
                        }
                  ]
            ];
      };
      nodes = λ p has.
          elim (HasMember-push_cases fed group p has) [
            | inl old_one ↦ ordered.nodes p old_one
            | inr member ↦ nodes p (record { place = i; within = lt; member = member })
          ];
    }

-- before the first group that isn't copied yet
pub copied_so_far : (lists groups old : List (List ℕ)) (n : ℕ) → AreOrdered lists old → AreWithin old groups → AreCopiedUpTo n groups old
    → IsCopied lists groups old old n
copied_so_far lists groups old n ordered within upto =
    record { ordered = ordered; longer = record { more = []; is = sym (append-nil old) }; within = within; upto = upto }

-- a group that is copied
pub copied_more : (lists groups old new : List (List ℕ)) (n : ℕ) → IsLegalOrder (Calls lists) groups → ((p : ℕ) → HasMember groups p → p < length lists)
    → n < length groups → (HasMember new (get_or (group_at groups n) 0 0) → ⊥) → IsCopied lists groups old new n
    → IsCopied lists groups old (new ++ group_at groups n ∷ []) (n + 1)
copied_more lists groups old new n legal nodes lt away is = record {
  ordered = ordered_more lists new groups n is.ordered legal nodes lt is.upto (none_there new groups n is.ordered.legal legal lt away);
  longer = record {
    more = is.longer.more ++ group_at groups n ∷ [];
    is = ap (λ l. l ++ group_at groups n ∷ []) is.longer.is ∙ append_assoc old is.longer.more (group_at groups n ∷ []);
  };
  within = λ p has.
      elim (HasMember-push_cases new (group_at groups n) p has)
      [ inl before ↦ is.within p before | inr member ↦ record { place = n; within = lt; member = member } ];
  upto = λ i p i_lt has.
      elim (cases_lt i n) [
        | inl first ↦ HasMember-push_left new (group_at groups n) p (is.upto i p first has)
        | inr from ↦
            let last : i ≡ n = omega (arith, from, i_lt) in
            HasMember-push new (group_at groups n) p (subst (λ k. Contains (group_at groups k) p) last has)
      ];
}

-- a group that is there already
pub copied_there : (lists groups old new : List (List ℕ)) (n : ℕ) → IsLegalOrder (Calls lists) groups → n < length groups
    → HasMember new (get_or (group_at groups n) 0 0) → IsCopied lists groups old new n → IsCopied lists groups old new (n + 1)
copied_there lists groups old new n legal lt there is = record {
  ordered = is.ordered;
  longer = is.longer;
  within = is.within;
  upto = λ i p i_lt has.
      elim (cases_lt i n) [
        | inl first ↦ is.upto i p first has
        | inr from ↦
            let last : i ≡ n = omega (arith, from, i_lt) in
            let class = class_at n legal lt in
            class_there new (group_at groups n) is.ordered.legal.each class (get_or (group_at groups n) 0 0) p (least_is_member class)
            (subst (λ k. Contains (group_at groups k) p) last has) there
      ];
}

-- the group can be appended
pub is_new : (lists fed groups : List (List ℕ)) (count i : ℕ) → count ≡ length lists → AreOrdered lists fed → IsLegalOrder (Calls lists) groups
    → ((p : ℕ) → HasMember groups p → p < length lists) → i < length groups → (HasMember fed (get_or (group_at groups i) 0 0) → ⊥)
    → IsNewGroup (record { count = count; groups = fed }) (group_at groups i)
is_new lists fed groups count i counted ordered legal nodes lt away =
    let group : List ℕ = group_at groups i in
    let class = class_at i legal lt in
    record {
      inhabited = class.inhabited;
      distinct =
          IsDistinct-from_apart nat_eq group
          (λ a b d before b_lt.
          ne_eqb (get_or group a d) (get_or group b d)
          (λ same.
          let rises = increasing_far group class.ascending a b before b_lt in
          let a_is = get_or_default group a d 0 (omega (arith, before, b_lt)) in
          let b_is = get_or_default group b d 0 b_lt in
          omega (arith, same, rises, a_is, b_is)));
      below = λ k d k_lt.
          let member = Contains-get_or group k d k_lt in
          let low = nodes (get_or group k d) (record { place = i; within = lt; member = member }) in
          omega (arith, low, counted);
      fresh = none_there fed groups i ordered.legal legal lt away;
    }

-- and is appended as it is
pub appended_as_is : (old new : ReleasedGroups) (group : List ℕ) → IsStrictlyIncreasing group → IsAppended old group new → new.groups ≡ old.groups ++ group ∷ []
appended_as_is old new group ascends is =
    let same : is.last ≡ group =
    increasing_unique is.last group is.ascending ascends (λ p has. Contains-permutation is.last group p (IsPermutation-sym group is.last is.same_members) has)
    (λ p has. Contains-permutation group is.last p is.same_members has) in
    is.groups ∙ ap (λ g. old.groups ++ g ∷ []) same
