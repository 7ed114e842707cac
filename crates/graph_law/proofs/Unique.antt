-- There is one list of classes of a relation, and one list of heights.
use Rattle.std.proofs.Common.{AllPairs, ◌≡◌, inl, inr, ℕ, zero, suc, ◌<◌, ◌≤◌, List, [], length, get_or, map, subst, sym, ap, ◌∙◌, arith}
use Rattle.std.proofs.lemmas.List.{ext_get_or, get_or_default, get_or-map, length-map}
use Rattle.std.specs.Prelude.{Contains}
use Rattle.std.specs.List.Sorted.{IsStrictlyIncreasing}
use Rattle.list_laws.proofs.OneOrder.{same_order}
use Rattle.graph_law.specs.Classes.{IsClass, AreClasses, HasMember, group_at, least_member}
use Rattle.graph_law.specs.Heights.{HaveHeights}
use Rattle.graph_law.proofs.ClassLaws.{least_is_member}
use Rattle.graph_law.proofs.Increasing.{increasing_far}

-- a list that rises is in the strict order of numbers
in_order : (xs : List ℕ) → IsStrictlyIncreasing xs → AllPairs (λ a b. a < b) xs
in_order xs up i j d before lt =
    let far : get_or xs i 0 < get_or xs j 0 = increasing_far xs up i j before lt in
    omega (arith, far, get_or_default xs i d 0 (omega (arith, before, lt)), get_or_default xs j d 0 lt)

-- lists that rise and have the same members are one
pub increasing_unique : (xs ys : List ℕ) → IsStrictlyIncreasing xs → IsStrictlyIncreasing ys
    → ((p : ℕ) → Contains xs p → Contains ys p) → ((p : ℕ) → Contains ys p → Contains xs p) → xs ≡ ys
increasing_unique xs ys up also to from =
    same_order (λ a b. a < b) (record { one_way = λ a b below above. omega (arith, below, above) }) xs ys (in_order xs up) (in_order ys also) to from

-- classes that share a node are one
pub class_unique : {calls : ℕ → ℕ → Type 0} {class other : List ℕ} → IsClass calls class → IsClass calls other
    → (p : ℕ) → Contains class p → Contains other p → class ≡ other
class_unique {calls} {class} {other} is also p here there =
    increasing_unique class other is.ascending also.ascending
    (λ q member. also.whole p q there (is.mutual_reach p q here member))
    (λ q member. is.whole p q here (also.mutual_reach p q there member))

-- each class of the first list stands in the second
class_among : {calls : ℕ → ℕ → Type 0} {starts : List ℕ} {classes others : List (List ℕ)}
    → AreClasses calls starts classes → AreClasses calls starts others
    → (i : ℕ) → i < length classes → (j : ℕ) × (j < length others) × (group_at classes i ≡ group_at others j)
class_among {calls} {starts} {classes} {others} are also i lt =
    let class : IsClass calls (group_at classes i) = are.each i [] lt in
    let p : ℕ = least_member (group_at classes i) in
    let has : HasMember others p =
    also.all p (are.reached p (record { place = i; within = lt; member = least_is_member class })) in
    (has.place, has.within, class_unique class (also.each has.place [] has.within) p (least_is_member class) has.member)

least_among : {calls : ℕ → ℕ → Type 0} {starts : List ℕ} {classes others : List (List ℕ)}
    → AreClasses calls starts classes → AreClasses calls starts others
    → (p : ℕ) → Contains (map least_member classes) p → Contains (map least_member others) p
least_among {calls} {starts} {classes} {others} are also p (i, lt, at) =
    let within : i < length classes = omega (arith, lt, length-map classes least_member) in
    let found : (j : ℕ) × (j < length others) × (group_at classes i ≡ group_at others j) = class_among are also i within in
    let here : get_or (map least_member classes) i p ≡ least_member (group_at classes i) = get_or-map least_member classes i [] p within in
    let there : get_or (map least_member others) found.0 p ≡ least_member (group_at others found.0) =
    get_or-map least_member others found.0 [] p found.1 in
    (found.0, omega (arith, length-map others least_member, found.1), there ∙ ap least_member (sym found.2) ∙ sym here ∙ at)

pub classes_unique : {calls : ℕ → ℕ → Type 0} {starts : List ℕ} {classes others : List (List ℕ)}
    → AreClasses calls starts classes → AreClasses calls starts others → classes ≡ others
classes_unique {calls} {starts} {classes} {others} are also =
    let least : map least_member classes ≡ map least_member others =
    increasing_unique (map least_member classes) (map least_member others) are.in_order also.in_order
    (least_among are also) (least_among also are) in
    let long : length classes ≡ length others =
    sym (length-map classes least_member) ∙ ap length least ∙ length-map others least_member in
    ext_get_or [] classes others long
    (λ i lt.
    let within : i < length others = omega (arith, lt, long) in
    let class : IsClass calls (group_at classes i) = are.each i [] lt in
    let other : IsClass calls (group_at others i) = also.each i [] within in
    let same : least_member (group_at classes i) ≡ least_member (group_at others i) =
    sym (get_or-map least_member classes i [] 0 lt) ∙ ap (λ xs. get_or xs i 0) least ∙ get_or-map least_member others i [] 0 within in
    class_unique class other (least_member (group_at classes i)) (least_is_member class)
    (subst (Contains (group_at others i)) (sym same) (least_is_member other)))

-- by the bound n on the first height
heights_le : {calls : ℕ → ℕ → Type 0} {groups : List (List ℕ)} {heights others : List ℕ}
    → HaveHeights calls groups heights → HaveHeights calls groups others
    → (n i : ℕ) → i < length groups → get_or heights i 0 ≤ n → get_or heights i 0 ≤ get_or others i 0
heights_le {calls} {groups} {heights} {others} are also zero i lt low = omega (arith, low)
heights_le {calls} {groups} {heights} {others} are also (suc n) i lt low =
    elim (are.least i lt) [
      | inl none ↦ omega (arith, none)
      | inr (j, led, at) ↦
          let callee : get_or heights j 0 ≤ get_or others j 0 = heights_le are also n j led.callee_within (omega (arith, low, at)) in
          omega (arith, at, callee, also.above i j led)
    ]

pub heights_unique : {calls : ℕ → ℕ → Type 0} {groups : List (List ℕ)} {heights others : List ℕ}
    → HaveHeights calls groups heights → HaveHeights calls groups others → heights ≡ others
heights_unique {calls} {groups} {heights} {others} are also =
    ext_get_or 0 heights others (are.each ∙ sym also.each)
    (λ i lt.
    let within : i < length groups = omega (arith, lt, are.each) in
    let low : get_or heights i 0 ≤ get_or others i 0 = heights_le are also (get_or heights i 0) i within (omega arith) in
    let high : get_or others i 0 ≤ get_or heights i 0 = heights_le also are (get_or others i 0) i within (omega arith) in
    omega (arith, low, high))
