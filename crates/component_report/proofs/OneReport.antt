-- Groups that are the same in any legal order have one report.
use Rattle.std.proofs.Common.{◌≡◌, ℕ, ◌+◌, List, [], ◌∷◌, ◌++◌, codes, sym, refl, ◌∙◌, ap}
use Rattle.std.specs.List.{flat_map}
use Rattle.std.proofs.lemmas.List.Folds.{flat_map-map}
use Rattle.group_release.specs.declared.level.Level.{Level}
use Rattle.report_lines.specs.Reportable.{AreLeveled}
use Rattle.component_report.specs.Report.{IsReport, group_line, place_line, head_line}
use Rattle.component_report.specs.JsonLines.{json_group, json_head, json_lines}
use Rattle.component_report.specs.declared.form.Form.{Form}
use Rattle.component_report.specs.declared.form.Form.TheVariants.{Lines, Json}
use Rattle.report_lines.proofs.OneLine.{line_at, lines, same_lines}
use Rattle.report_lines.proofs.OneHead.{same_head}
use Rattle.component_report.proofs.OneHead.{same_json_head}

abbrev line_text : List (List ℕ) → List ℕ × Level → List ℕ
line_text names line = group_line names line.0 line.1

same_words : {calls : ℕ → ℕ → Type 0} {starts : List ℕ} {groups others : List (List ℕ)} {levels marks : List Level} (names : List (List ℕ))
    (bytes other : List ℕ) → AreLeveled calls starts groups levels → AreLeveled calls starts others marks → IsReport Lines names groups levels bytes
    → IsReport Lines names others marks other → bytes ≡ other
same_words {calls} {starts} {groups} {others} {levels} {marks} names bytes other a b first second =
    let same = same_lines a b first.order second.order first.in_order second.in_order in
    let head : head_line groups levels ≡ head_line others marks = same_head (codes "nodes ") a b in
    let of_groups : flat_map (place_line names groups levels) first.order ≡ flat_map (place_line names others marks) second.order =
    sym (flat_map-map (line_text names) (line_at groups levels) first.order)
    ∙ (ap (flat_map (line_text names)) same ∙ flat_map-map (line_text names) (line_at others marks) second.order) in
    first.is ∙ ((λ i. head i ++ of_groups i) ∙ sym second.is)

-- the same in JSON: lines are numbered in their order
abbrev numbered : List (List ℕ) → ℕ → List (List ℕ × Level) → List ℕ
numbered names id [] = []
numbered names id (line ∷ more) = json_group names id line.0 line.1 ++ numbered names (id + 1) more

are_numbered : (names groups : List (List ℕ)) (levels : List Level) (id : ℕ) (order : List ℕ)
    → json_lines names groups levels id order ≡ numbered names id (lines groups levels order)
are_numbered names groups levels id [] = refl
are_numbered names groups levels id (place ∷ places) =
    ap (λ text. json_group names id (line_at groups levels place).0 (line_at groups levels place).1 ++ text)
    (are_numbered names groups levels (id + 1) places)

same_json : {calls : ℕ → ℕ → Type 0} {starts : List ℕ} {groups others : List (List ℕ)} {levels marks : List Level} (names : List (List ℕ))
    (bytes other : List ℕ) → AreLeveled calls starts groups levels → AreLeveled calls starts others marks → IsReport Json names groups levels bytes
    → IsReport Json names others marks other → bytes ≡ other
same_json {calls} {starts} {groups} {others} {levels} {marks} names bytes other a b first second =
    let same = same_lines a b first.order second.order first.in_order second.in_order in
    let head : json_head groups levels ≡ json_head others marks = same_json_head a b in
    let of_groups : json_lines names groups levels 0 first.order ≡ json_lines names others marks 0 second.order =
    are_numbered names groups levels 0 first.order ∙ (ap (numbered names 0) same ∙ sym (are_numbered names others marks 0 second.order)) in
    first.is ∙ ((λ i. head i ++ of_groups i) ∙ sym second.is)

pub same_report : (form : Form) {calls : ℕ → ℕ → Type 0} {starts : List ℕ} {groups others : List (List ℕ)} {levels marks : List Level} (names : List (List ℕ))
    (bytes other : List ℕ) → AreLeveled calls starts groups levels → AreLeveled calls starts others marks → IsReport form names groups levels bytes
    → IsReport form names others marks other → bytes ≡ other
same_report Lines names bytes other a b first second = same_words names bytes other a b first second
same_report Json names bytes other a b first second = same_json names bytes other a b first second
