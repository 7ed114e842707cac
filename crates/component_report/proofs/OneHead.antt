-- Groups that are the same in any legal order have one head line in JSON.
use Rattle.std.proofs.Common.{◌≡◌, ℕ, List, ◌++◌, codes}
use Rattle.std.specs.Fmt.{decimal}
use Rattle.group_release.specs.declared.level.Level.{Level}
use Rattle.component_report.specs.JsonLines.{json_head}
use Rattle.report_lines.specs.Reportable.{AreLeveled}
use Rattle.report_lines.proofs.OneHead.{are_alike}

abbrev json_of : ℕ → ℕ → ℕ → ℕ → List ℕ
json_of nodes groups recursive levels =
    (codes "{\"nodes\":" ++ decimal nodes) ++ (codes ",\"groups\":" ++ decimal groups)
    ++ (codes ",\"recursive\":" ++ decimal recursive)
    ++ (codes ",\"levels\":" ++ decimal levels) ++ codes "}\n"

pub same_json_head : {calls : ℕ → ℕ → Type 0} {starts : List ℕ} {groups others : List (List ℕ)} {levels marks : List Level}
    → AreLeveled calls starts groups levels → AreLeveled calls starts others marks → json_head groups levels ≡ json_head others marks
same_json_head {calls} {starts} {groups} {others} {levels} {marks} a b =
    let alike = are_alike a b in λ i. json_of (alike.size i) (alike.many i) (alike.recursive i) (alike.heights i)
