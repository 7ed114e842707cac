-- How the list of classes grows, node by node.
use Rattle.std.proofs.Common.{◌≡◌, inl, inr, ℕ, ◌<◌, ◌≤◌, ◌+◌, List, [], ◌∷◌, ◌++◌, map, subst, sym, arith}
use Rattle.std.proofs.lemmas.Bool.{cases_eq, cases_lt}
use Rattle.std.proofs.lemmas.List.{map_push}
use Rattle.std.proofs.lemmas.List.Elements.{All-contains, All-weaker, All-push, All-map}
use Rattle.std.specs.Prelude.{All, Contains, Bool}
use Rattle.std.specs.List.Sorted.{IsStrictlyIncreasing}
use Rattle.graph_law.specs.Reach.{IsReached, ReachEachOther}
use Rattle.graph_law.specs.Reached.{AreRows, MarkEachOther, HasEarlier, AreMarkedWith}
use Rattle.graph_law.specs.Classes.{IsClass, HasMember, group_at, least_member}
use Rattle.graph_law.proofs.ReachLaws.{is_reached_on, each_other_self, each_other_sym, each_other_trans}
use Rattle.graph_law.proofs.ClassLaws.{least_is_member, least_is_least, HasMember-push_left, HasMember-push, HasMember-push_cases}
use Rattle.graph_law.proofs.Increasing.{increasing_push}
use Rattle.graph_law.proofs.Rows.{mark_each_other, reach_from_marks, reached_below}

-- the classes whose least member is below n, of what the starts reach
pub record AreClassesBelow (calls : ℕ → ℕ → Type 0) (starts : List ℕ) (n : ℕ) (classes : List (List ℕ)) : Type 0 where
  pub each : All (IsClass calls) classes
  pub low : All (λ class. least_member class < n) classes
  pub reached : (p : ℕ) → HasMember classes p → IsReached calls starts p
  pub all : (p : ℕ) → p < n → IsReached calls starts p → HasMember classes p
  pub in_order : IsStrictlyIncreasing (map least_member classes)

-- a node that is not reached, or is a member already
pub below_skip : {calls : ℕ → ℕ → Type 0} {starts : List ℕ} {n : ℕ} {classes : List (List ℕ)}
    → AreClassesBelow calls starts n classes → (IsReached calls starts n → HasMember classes n) → AreClassesBelow calls starts (n + 1) classes
below_skip {calls} {starts} {n} {classes} are has = record {
  each = are.each;
  low = All-weaker (λ class. least_member class < n) (λ class. least_member class < n + 1) (λ class lt. omega (arith, lt)) classes are.low;
  reached = are.reached;
  all = λ p lt reached.
      elim (cases_eq p n) [
        | inl is ↦ subst (HasMember classes) (sym is) (has (subst (IsReached calls starts) is reached))
        | inr ne ↦ are.all p (omega (arith, lt, ne)) reached
      ];
  in_order = are.in_order;
}

-- a reached node of the class of an earlier one is a member already
pub earlier_has : {calls : ℕ → ℕ → Type 0} {starts : List ℕ} {n : ℕ} {classes : List (List ℕ)}
    → AreClassesBelow calls starts n classes → (p : ℕ) → p < n → ReachEachOther calls p n → IsReached calls starts n → HasMember classes n
earlier_has {calls} {starts} {n} {classes} are p lt both reached =
    let has : HasMember classes p = are.all p lt (is_reached_on calls starts n p reached both.back) in
    let class : IsClass calls (group_at classes has.place) = are.each has.place [] has.within in
    record { place = has.place; within = has.within; member = class.whole p n has.member both }

-- a new class, of which this node is the least member
pub below_more : {calls : ℕ → ℕ → Type 0} {starts : List ℕ} {n : ℕ} {classes : List (List ℕ)}
    → AreClassesBelow calls starts n classes → (class : List ℕ) → IsClass calls class → Contains class n → least_member class ≡ n
    → IsReached calls starts n → AreClassesBelow calls starts (n + 1) (classes ++ class ∷ [])
below_more {calls} {starts} {n} {classes} are class is member least reached = record {
  each = All-push (IsClass calls) classes class are.each is;
  low = All-push (λ other. least_member other < n + 1) classes class
      (All-weaker (λ other. least_member other < n) (λ other. least_member other < n + 1) (λ other lt. omega (arith, lt)) classes are.low)
      (omega (arith, least));
  reached = λ p has.
      elim (HasMember-push_cases classes class p has) [
        | inl before ↦ are.reached p before
        | inr here ↦ is_reached_on calls starts n p reached (is.mutual_reach n p member here).there
      ];
  all = λ p lt is_reached.
      elim (cases_eq p n) [
        | inl same ↦ HasMember-push classes class p (subst (Contains class) (sym same) member)
        | inr ne ↦ HasMember-push_left classes class p (are.all p (omega (arith, lt, ne)) is_reached)
      ];
  in_order =
      rw (map_push least_member classes class, least)
      (increasing_push (map least_member classes) n are.in_order (All-map (λ k. k < n) least_member classes are.low));
}

-- what the rows say of the nodes that are marked with n
pub class_from_marks : {calls : ℕ → ℕ → Type 0} {count : ℕ} {rows : List (List Bool)} {n : ℕ} {class : List ℕ}
    → AreRows calls count count rows → n < count → AreMarkedWith rows n count class → IsClass calls class × Contains class n
class_from_marks {calls} {count} {rows} {n} {class} are lt marked =
    let self : Contains class n = marked.all n lt (mark_each_other calls count rows n n are lt lt (each_other_self calls n)) in
    let with_n : (p : ℕ) → Contains class p → ReachEachOther calls n p =
    λ p member. reach_from_marks calls count rows n p are (All-contains (MarkEachOther rows n) class p marked.marked member) in (
      record {
        inhabited = (let within = self.1 in omega (arith, within));
        ascending = marked.ascending;
        mutual_reach = λ p q here there. each_other_trans (each_other_sym (with_n p here)) (with_n q there);
        whole = λ p q here both.
            let on : ReachEachOther calls n q = each_other_trans (with_n p here) both in
            let below : q < count = reached_below calls count rows n q are lt on.there in
            marked.all q below (mark_each_other calls count rows n q are lt below on);
      },
      self,
    )

-- where no earlier node is marked with n, it is the least of its class
pub least_from_marks : {calls : ℕ → ℕ → Type 0} {count : ℕ} {rows : List (List Bool)} {n : ℕ} {class : List ℕ}
    → AreRows calls count count rows → n < count → AreMarkedWith rows n count class → (HasEarlier rows n → ⊥) → least_member class ≡ n
least_from_marks {calls} {count} {rows} {n} {class} are lt marked none =
    let is : IsClass calls class = (class_from_marks are lt marked).0 in
    let le : least_member class ≤ n = least_is_least is n (class_from_marks are lt marked).1 in
    elim (cases_lt (least_member class) n) [
      | inl before ↦
          let both : MarkEachOther rows n (least_member class) =
          All-contains (MarkEachOther rows n) class (least_member class) marked.marked (least_is_member is) in
          absurd (none (record { earlier = least_member class; below = before; marked = both }))
      | inr from ↦ omega (arith, le, from)
    ]
