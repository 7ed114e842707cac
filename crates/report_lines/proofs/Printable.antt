-- Groups in a legal order can be printed.
use Rattle.std.proofs.Common.{◌≡◌, ◌<◌, ◌^◌, ℕ, List, [], length, get_or, map, sym, ◌∙◌, subst, arith}
use Rattle.std.specs.Prelude.{All, Contains}
use Rattle.std.proofs.lemmas.Bool.Decides.{Decides-eqb}
use Rattle.std.proofs.lemmas.List.{get_or_default, get_or-map, length-map}
use Rattle.std.proofs.lemmas.List.Elements.{All-map, All-contains, Contains-get_or}
use Rattle.std.proofs.lemmas.Map.Made.{IsDistinct-from_AllPairs}
use Rattle.std.proofs.lemmas.Map.Steps.{length-le_from_distinct_below}
use Rattle.std.proofs.lemmas.Map.Views.{Contains-from_any}
use Rattle.graph_law.specs.Graph.{Calls, IsClosed}
use Rattle.graph_law.specs.Reach.{IsReached}
use Rattle.graph_law.specs.Classes.{HasMember, group_at, least_member}
use Rattle.graph_law.specs.LegalOrder.{IsLegalOrder}
use Rattle.graph_law.proofs.ReachLaws.{along_walk}
use Rattle.graph_law.proofs.ClassLaws.{least_is_member}
use Rattle.graph_law.proofs.Increasing.{increasing_count}
use Rattle.group_release.specs.declared.level.Level.{Level}
use Rattle.group_release.specs.Level.{AreLevels}
use Rattle.report_lines.specs.LineOrder.{least_at}
use Rattle.report_lines.specs.Reportable.{AreLeveled, AreReportable, ArePrintable, LeastDiffer}

-- as many levels as groups
pub one_each : {calls : ℕ → ℕ → Type 0} {groups : List (List ℕ)} {levels : List Level} → AreLevels calls groups levels → length levels ≡ length groups
one_each {calls} {groups} {levels} are = sym (length-map levels (λ (level : Level). level.height)) ∙ are.heights.each

-- two groups with the same least member are one
least_apart : {calls : ℕ → ℕ → Type 0} {groups : List (List ℕ)} → IsLegalOrder calls groups
    → (i j : ℕ) → i < length groups → j < length groups → least_at groups i ≡ least_at groups j → i ≡ j
least_apart {calls} {groups} legal i j within inside same =
    let here : Contains (group_at groups i) (least_at groups i) = least_is_member (legal.each i [] within) in
    let there : Contains (group_at groups j) (least_at groups j) = least_is_member (legal.each j [] inside) in
    legal.once i j (least_at groups i) within inside here (subst (Contains (group_at groups j)) (sym same) there)

-- so no two have the same least member
pub least_differ : {calls : ℕ → ℕ → Type 0} {groups : List (List ℕ)} → IsLegalOrder calls groups → LeastDiffer groups
least_differ {calls} {groups} legal i j d lt within e =
    let long : length (map least_member groups) ≡ length groups = length-map groups least_member in
    let at_first : get_or (map least_member groups) i d ≡ least_at groups i =
    get_or_default (map least_member groups) i d 0 (omega (arith, lt, within)) ∙ get_or-map least_member groups i [] 0 (omega (arith, lt, within, long)) in
    let at_second : get_or (map least_member groups) j d ≡ least_at groups j =
    get_or_default (map least_member groups) j d 0 within ∙ get_or-map least_member groups j [] 0 (omega (arith, within, long)) in
    let one = least_apart legal i j (omega (arith, lt, within, long)) (omega (arith, within, long)) (sym at_first ∙ (e ∙ at_second)) in
    omega (arith, one, lt)

pub printable_groups : {count : ℕ} {groups : List (List ℕ)} {levels : List Level} → AreReportable count groups levels → ArePrintable count groups levels
printable_groups {count} {groups} {levels} are = record {
  one_level_each = one_each are.leveled;
  inhabited = λ k d lt. (are.legal.each k d lt).inhabited;
  ascending = λ k d lt. (are.legal.each k d lt).ascending;
  within = λ k d lt j e below.
      let P : List ℕ → Type 0 = λ group. Contains group (get_or (get_or groups k d) j e) in
      let member = subst P (get_or_default groups k d [] lt) (Contains-get_or (get_or groups k d) j e below) in
      are.nodes (get_or (get_or groups k d) j e) (record { place = k; within = lt; member = member });
  least_differ = least_differ are.legal;
}

-- no group has more members than there are nodes
pub short_groups : {count : ℕ} {groups : List (List ℕ)} {levels : List Level} → count < 2 ^ 32 → ArePrintable count groups levels
    → All (λ members. length members < 2 ^ 32) groups
short_groups {count} {groups} {levels} few are k d lt =
    omega (arith, increasing_count (get_or groups k d) count (are.ascending k d lt) (are.within k d lt), few)

-- there are no more groups than nodes
pub few_groups : {count : ℕ} {groups : List (List ℕ)} {levels : List Level} → count < 2 ^ 32 → ArePrintable count groups levels → length groups < 2 ^ 32
few_groups {count} {groups} {levels} few are =
    let first = least_member in
    let below : All (λ x. x < count) (map first groups) =
    All-map (λ x. x < count) first groups (λ k d lt. are.within k d lt 0 0 (are.inhabited k d lt)) in
    let most = length-le_from_distinct_below (map first groups) count
    (IsDistinct-from_AllPairs Decides-eqb (map first groups) are.least_differ)
    (λ q has. All-contains (λ x. x < count) (map first groups) q below (Contains-from_any (λ x y e. (Decides-eqb x y).0 e) q (map first groups) has)) in
    omega (arith, most, length-map groups first, few)

-- the members of groups that some nodes reach are nodes
pub members_are_nodes : (lists : List (List ℕ)) {starts : List ℕ} {groups : List (List ℕ)} → IsClosed lists → All (λ start. start < length lists) starts
    → ((p : ℕ) → HasMember groups p → IsReached (Calls lists) starts p) → (p : ℕ) → HasMember groups p → p < length lists
members_are_nodes lists {starts} closed within are_reached p has =
    let reached = are_reached p has in
    along_walk (Calls lists) (λ q. q < length lists) (λ q r lt call. closed q r call) reached.start reached.reaches.path p reached.reaches.walk
    (All-contains (λ q. q < length lists) starts reached.start within reached.is_start)

-- what a search and the levels promise makes groups reportable
pub reportable_groups : (lists : List (List ℕ)) {starts : List ℕ} {groups : List (List ℕ)} {levels : List Level} (count : ℕ) → IsClosed lists
    → length lists ≡ count → All (λ start. start < length lists) starts → AreLeveled (Calls lists) starts groups levels → AreReportable count groups levels
reportable_groups lists {starts} {groups} {levels} count closed many within are = record {
  lists = lists;
  legal = are.are.legal;
  nodes = λ p has. omega (arith, members_are_nodes lists closed within are.are.reached p has, many);
  leveled = are.leveled;
}
