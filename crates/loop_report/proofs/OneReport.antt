-- Groups that are the same in any legal order have one report.
use Rattle.std.proofs.Common.{◌≡◌, ℕ, Bool, true, false, not, if◌then◌else◌, List, [], ◌++◌, codes, refl, length, nat_eq, Contains, sym, subst, ◌∙◌, ap}
use Rattle.std.specs.List.{flat_map, filter, list_any, range_with_len}
use Rattle.std.proofs.lemmas.Bool.Decides.{Decides-eqb}
use Rattle.std.proofs.lemmas.Cmp.{nat_eq_equiv}
use Rattle.std.proofs.lemmas.List.{get_or_default}
use Rattle.std.proofs.lemmas.List.Folds.{flat_map-map, Any-from_list_any, list_any_at}
use Rattle.std.proofs.lemmas.Map.Views.{list_any-from_Contains, Contains-from_any}
use Rattle.module_table.specs.Facts.{Facts}
use Rattle.graph_law.specs.Classes.{HasMember, group_at}
use Rattle.group_release.specs.declared.level.Level.{Level}
use Rattle.import_rules.specs.declared.names.PredName.{PredName}
use Rattle.report_lines.specs.Reportable.{AreGroups, AreLeveled}
use Rattle.loop_report.specs.Report.{IsReport, group_line, place_line, head_line, loop_line, is_grouped, ungrouped, unreached_line}
use Rattle.report_lines.proofs.OneLine.{line_at, same_lines, reached_has}
use Rattle.report_lines.proofs.OneHead.{same_head}
use Rattle.loop_report.proofs.OneLoops.{one_list_of_loops}

abbrev line_text : List PredName → List ℕ × Level → List ℕ
line_text predicates line = group_line predicates line.0 line.1

-- the predicates in no group

grouped_has : (groups : List (List ℕ)) (p : ℕ) → is_grouped groups p ≡ true → HasMember groups p
grouped_has groups p is =
    let here = Any-from_list_any (λ group. list_any (nat_eq p) group) groups is in
    let member : Contains here.1 p = Contains-from_any (λ x y e. (Decides-eqb x y).0 e) p here.1 here.4 in
    record {
      place = here.0;
      within = here.2;
      member = subst (λ (group : List ℕ). Contains group p) (sym here.3 ∙ get_or_default groups here.0 here.1 [] here.2) member;
    }

has_grouped : (groups : List (List ℕ)) (p : ℕ) → HasMember groups p → is_grouped groups p ≡ true
has_grouped groups p has =
    list_any_at (λ group. list_any (nat_eq p) group) groups has.place [] has.within (list_any-from_Contains nat_eq_equiv p (group_at groups has.place) has.member)

same_test : (a b : Bool) → (a ≡ true → b ≡ true) → (b ≡ true → a ≡ true) → a ≡ b
same_test true b to from = sym (to refl)
same_test false true to from = from refl
same_test false false to from = refl

same_grouped : {calls : ℕ → ℕ → Type 0} {starts : List ℕ} {groups others : List (List ℕ)} → AreGroups calls starts groups → AreGroups calls starts others
    → (p : ℕ) → is_grouped groups p ≡ is_grouped others p
same_grouped {calls} {starts} {groups} {others} are also p =
    same_test (is_grouped groups p) (is_grouped others p)
    (λ holds. has_grouped others p (reached_has also p (are.reached p (grouped_has groups p holds))))
    (λ holds. has_grouped groups p (reached_has are p (also.reached p (grouped_has others p holds))))

same_ungrouped : {calls : ℕ → ℕ → Type 0} {starts : List ℕ} {groups others : List (List ℕ)} → AreGroups calls starts groups → AreGroups calls starts others
    → (count : ℕ) → ungrouped groups count ≡ ungrouped others count
same_ungrouped {calls} {starts} {groups} {others} are also count =
    let tests : (λ (p : ℕ). not (is_grouped groups p)) ≡ (λ (p : ℕ). not (is_grouped others p)) = λ i p. not (same_grouped are also p i) in
    ap (λ test. filter test (range_with_len 0 count)) tests

pub same_report : {calls : ℕ → ℕ → Type 0} {starts : List ℕ} {groups others : List (List ℕ)} {levels marks : List Level} (predicates : List PredName) (files : List Facts)
    (unreached : Bool) (bytes other : List ℕ) → AreLeveled calls starts groups levels → AreLeveled calls starts others marks
    → IsReport predicates files groups levels unreached bytes → IsReport predicates files others marks unreached other → bytes ≡ other
same_report {calls} {starts} {groups} {others} {levels} {marks} predicates files unreached bytes other a b first second =
    let same = same_lines a b first.order second.order first.in_order second.in_order in
    let head : head_line groups levels ≡ head_line others marks = same_head (codes "predicates ") a b in
    let of_groups : flat_map (place_line predicates groups levels) first.order ≡ flat_map (place_line predicates others marks) second.order =
    sym (flat_map-map (line_text predicates) (line_at groups levels) first.order)
    ∙ (ap (flat_map (line_text predicates)) same ∙ flat_map-map (line_text predicates) (line_at others marks) second.order) in
    let loops : first.report.loops ≡ second.report.loops =
    one_list_of_loops files first.report.loops second.report.loops first.report.are_loops second.report.are_loops in
    let nodes = same_ungrouped a.are b.are (length predicates) in
    let all = λ (h g : List ℕ) (ls : List (List (List ℕ))) (ns : List ℕ).
    h ++ g ++ flat_map loop_line ls ++ (if unreached then flat_map (unreached_line predicates) ns else []) in
    first.report.is ∙ ((λ i. all (head i) (of_groups i) (loops i) (nodes i)) ∙ sym second.report.is)
