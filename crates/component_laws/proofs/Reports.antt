-- What some nodes reach has a report.
use Rattle.std.proofs.Common.{ℕ, ◌<◌, ◌++◌, Bool, true, false, List, [], Option, All, length, refl}
use Rattle.std.specs.List.{flat_map}
use Rattle.graph_law.specs.Classes.{HasMember}
use Rattle.graph_law.specs.Graph.{Calls, IsClosed}
use Rattle.graph_law.specs.LegalOrder.{IsComplete, IsLegalOrder}
use Rattle.graph_law.specs.Reach.{IsReached}
use Rattle.group_release.specs.declared.level.Level.{Level}
use Rattle.group_release.specs.Level.{AreLevels}
use Rattle.loop_paths.specs.Circuits.{AreCircuits}
use Rattle.component_report.specs.Cycles.{cycle_line_at}
use Rattle.report_lines.specs.LineOrder.{IsLineOrder}
use Rattle.component_report.specs.Report.{order_report, report_in}
use Rattle.report_lines.specs.Reportable.{AreLeveled}
use Rattle.component_report.specs.declared.form.Form.{Form}
use Rattle.component_answer.specs.declared.answer.Wanted.{Wanted}
use Rattle.component_answer.specs.Answers.{AreLoops, IsPart, IsReachReport, IsReportBy}
use Rattle.report_lines.proofs.Printable.{members_are_nodes}
use Rattle.component_laws.proofs.ReportOrder.{line_order_of}

-- what there is for each graph, as the laws say it
pub record GraphLaws : Type 0 where
  pub ordered : (lists : List (List ℕ)) (roots : List ℕ) → IsClosed lists → All (λ root. root < length lists) roots
      → (groups : List (List ℕ)) × (IsLegalOrder (Calls lists) groups × IsComplete roots groups × ((v : ℕ) → HasMember groups v → IsReached (Calls lists) roots v))
  pub leveled : (lists : List (List ℕ)) (groups : List (List ℕ)) → IsLegalOrder (Calls lists) groups
      → (levels : List Level) × AreLevels (Calls lists) groups levels
  pub circuits : (lists groups : List (List ℕ)) → IsClosed lists → IsLegalOrder (Calls lists) groups
      → ((p : ℕ) → HasMember groups p → p < length lists) → (circuits : List (Option (List ℕ))) × AreCircuits (Calls lists) groups circuits

report_by : (order : Bool) (form : Form) (names groups : List (List ℕ)) (levels : List Level) → (rows : List ℕ) × IsLineOrder groups levels rows
    → (bytes : List ℕ) × IsReportBy order form names groups levels bytes
report_by true form names groups levels rows = (order_report form names groups levels, refl)
report_by false form names groups levels rows =
    (report_in form names groups levels rows.0, record { order = rows.0; in_order = rows.1; is = refl })

loops_by : (wanted : Bool) (lists : List (List ℕ)) (form : Form) (names groups : List (List ℕ)) (levels : List Level) → (rows : List ℕ) × IsLineOrder groups levels rows
    → (circuits : List (Option (List ℕ))) × AreCircuits (Calls lists) groups circuits
    → (bytes : List ℕ) × IsPart wanted (AreLoops lists form names groups levels) bytes
loops_by false lists form names groups levels rows cycles = ([], refl)
loops_by true lists form names groups levels rows cycles = (
  flat_map (cycle_line_at form names cycles.0) rows.0,
  record { cycles = cycles.0; are = cycles.1; lines = record { order = rows.0; in_order = rows.1; is = refl } },
)

pub report_of : GraphLaws → (names lists : List (List ℕ)) (starts : List ℕ) (wanted : Wanted) → IsClosed lists → All (λ start. start < length lists) starts
    → (bytes : List ℕ) × IsReachReport names lists starts wanted bytes
report_of laws names lists starts wanted closed within =
    let groups = laws.ordered lists starts closed within in
    let levels = laws.leveled lists groups.0 groups.1.0 in
    let leveled : AreLeveled (Calls lists) starts groups.0 levels.0 = record {
      are = record { legal = groups.1.0; complete = groups.1.1; reached = groups.1.2 };
      leveled = levels.1;
    } in
    let rows = line_order_of groups.0 levels.0 groups.1.0 in
    let cycles = laws.circuits lists groups.0 closed groups.1.0 (members_are_nodes lists closed within groups.1.2) in
    let told = report_by wanted.order wanted.form names groups.0 levels.0 rows in
    let loops = loops_by wanted.loops lists wanted.form names groups.0 levels.0 rows cycles in (
      told.0 ++ loops.0,
      record {
        groups = groups.0;
        levels = levels.0;
        leveled = leveled;
        told = told.0;
        report = told.1;
        loops = loops.0;
        are_loops = loops.1;
        is = refl;
      },
    )
