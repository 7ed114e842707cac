-- The parts of a report, one after another.
use Rattle.std.proofs.Common.{◌≡◌, ℕ, List, [], ◌++◌, Bool, ap, sym, ◌∙◌, append_assoc}
use Rattle.std.specs.Prelude.{if◌then◌else◌}
use Rattle.std.specs.List.{flat_map}
use Rattle.group_release.specs.declared.level.Level.{Level}
use Rattle.module_table.specs.Facts.{Facts}
use Rattle.import_rules.specs.declared.names.PredName.{PredName}
use Rattle.loop_report.specs.ImportLoops.{AreImportLoops}
use Rattle.loop_report.specs.Report.{IsReportIn, head_line, loop_line, place_line, unreached_lines}
use Rattle.loop_report.specs.Texts.{HasRest}

-- the predicates that are in no group, where they are asked for
abbrev pub asked_lines : List PredName → List (List ℕ) → Bool → List ℕ
asked_lines predicates groups unreached = if unreached then unreached_lines predicates groups else []

-- loops were added, and what is asked for of the predicates that are in no group
pub rest_added : (predicates : List PredName) (files : List Facts) (groups : List (List ℕ)) (unreached : Bool) (loops : List (List (List ℕ)))
    (before middle after : List ℕ) → AreImportLoops files loops → middle ≡ before ++ flat_map loop_line loops
    → after ≡ middle ++ asked_lines predicates groups unreached → HasRest predicates files groups unreached before after
rest_added predicates files groups unreached loops before middle after are first second =
    let asked = asked_lines predicates groups unreached in
    record {
      loops = loops;
      are_loops = are;
      is = second ∙ (ap (λ text. text ++ asked) first ∙ append_assoc before (flat_map loop_line loops) asked);
    }

-- the report is its head, the lines of the groups, and the rest
pub report_in : (predicates : List PredName) (files : List Facts) (groups : List (List ℕ)) (levels : List Level) (unreached : Bool) (order before after : List ℕ)
    → before ≡ head_line groups levels ++ flat_map (place_line predicates groups levels) order → HasRest predicates files groups unreached before after
    → IsReportIn predicates files groups levels unreached order after
report_in predicates files groups levels unreached order before after is rest =
    let loops = flat_map loop_line rest.loops in
    let asked = asked_lines predicates groups unreached in
    record {
      loops = rest.loops;
      are_loops = rest.are_loops;
      is = rest.is ∙ (sym (append_assoc before loops asked) ∙ ap (λ text. text ++ loops ++ asked) is);
    }

-- and so it is in texts
pub report_in_texts : (predicates : List PredName) (files : List Facts) (groups : List (List ℕ)) (levels : List Level) (unreached : Bool)
    (order first lines last bytes : List ℕ) → first ≡ head_line groups levels → lines ≡ flat_map (place_line predicates groups levels) order
    → HasRest predicates files groups unreached [] last → bytes ≡ first ++ (lines ++ last)
    → IsReportIn predicates files groups levels unreached order bytes
report_in_texts predicates files groups levels unreached order first lines last bytes is_first is_lines rest joins =
    let all = first ++ lines in
    report_in predicates files groups levels unreached order all bytes (λ i. is_first i ++ is_lines i)
    (record {
      loops = rest.loops;
      are_loops = rest.are_loops;
      is = joins ∙ (sym (append_assoc first lines last) ∙ ap (λ text. all ++ text) rest.is);
    })
