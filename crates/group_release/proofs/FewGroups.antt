-- Groups of which none is empty and no two share a node are at most as many as there are nodes.
use Rattle.std.proofs.Common.{◌≡◌, ℕ, ◌<◌, ◌≤◌, List, [], length, get_or, map, eqb, subst, sym, ◌∙◌, arith}
use Rattle.std.proofs.lemmas.Bool.{ne_eqb}
use Rattle.std.proofs.lemmas.List.{get_or-map, length-map}
use Rattle.std.proofs.lemmas.List.Elements.{Contains-get_or}
use Rattle.std.proofs.lemmas.Map.Keys.{IsDistinct-from_apart}
use Rattle.std.proofs.lemmas.Map.Steps.{length-le_from_distinct_below}
use Rattle.std.proofs.lemmas.Map.Views.{Contains-from_any, exact_unsigned_eq}
use Rattle.std.specs.List.{IsDistinct}
use Rattle.std.specs.Prelude.{All, Contains}
use Rattle.graph_law.specs.Classes.{group_at, least_member}
use Rattle.graph_law.specs.CallOrder.{AreApart}

first_is_member : (groups : List (List ℕ)) (i : ℕ) → All (λ group. 0 < length group) groups → i < length groups
    → Contains (group_at groups i) (least_member (group_at groups i))
first_is_member groups i inhabited lt = Contains-get_or (group_at groups i) 0 0 (inhabited i [] lt)

pub few_groups : (count : ℕ) (groups : List (List ℕ)) → All (λ group. 0 < length group) groups → AreApart count groups → length groups ≤ count
few_groups count groups inhabited apart =
    let firsts : List ℕ = map least_member groups in
    let long : length firsts ≡ length groups = length-map groups least_member in
    let at : (i d : ℕ) → i < length groups → get_or firsts i d ≡ least_member (group_at groups i) =
    λ i d lt. get_or-map least_member groups i [] d lt in
    let distinct : IsDistinct eqb firsts =
    IsDistinct-from_apart eqb firsts
    (λ i j d before lt.
    let within : j < length groups = omega (arith, long, lt) in
    let inside : i < length groups = omega (arith, before, within) in
    ne_eqb (get_or firsts i d) (get_or firsts j d)
    (λ same.
    let equal : least_member (group_at groups i) ≡ least_member (group_at groups j) = sym (at i d inside) ∙ same ∙ at j d within in
    let also : Contains (group_at groups j) (least_member (group_at groups i)) =
    subst (Contains (group_at groups j)) (sym equal) (first_is_member groups j inhabited within) in
    let one : i ≡ j =
    apart.once i j (least_member (group_at groups i)) inside within (first_is_member groups i inhabited inside) also in
    omega (arith, one, before))) in
    let low : length firsts ≤ count =
    length-le_from_distinct_below firsts count distinct
    (λ q found.
    let has : Contains firsts q = Contains-from_any exact_unsigned_eq q firsts found in
    let lt : has.0 < length groups = (let inside = has.1 in omega (arith, inside, long)) in
    let is : least_member (group_at groups has.0) ≡ q = sym (at has.0 q lt) ∙ has.2 in
    apart.below has.0 q lt (subst (Contains (group_at groups has.0)) is (first_is_member groups has.0 inhabited lt))) in
    omega (arith, low, long)
