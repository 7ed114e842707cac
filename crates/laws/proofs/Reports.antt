-- Import loops, the order of lines, and the report of them.
use Rattle.std.proofs.Common.{ℕ, ◌<◌, Bool, List, [], ◌++◌, length, map, All, refl, sym}
use Rattle.std.specs.Prelude.{if◌then◌else◌}
use Rattle.std.specs.List.{flat_map, range_with_len}
use Rattle.graph_law.specs.Graph.{Calls, IsClosed}
use Rattle.graph_law.specs.Reach.{IsReached}
use Rattle.graph_law.specs.Classes.{HasMember}
use Rattle.graph_law.specs.LegalOrder.{IsComplete, IsLegalOrder}
use Rattle.list_laws.proofs.OneOrder.{range_below}
use Rattle.group_release.specs.declared.level.Level.{Level}
use Rattle.module_table.specs.Facts.{Facts}
use Rattle.import_rules.specs.declared.names.PredName.{PredName}
use Rattle.import_rules.proofs.Lists.{all_by}
use Rattle.laws.proofs.Orders.{HasSorted, has_sorted}
use Rattle.loop_report.specs.ImportLoops.{AreImportLoops, AreModules, names_at}
use Rattle.loop_report.specs.ModuleGraph.{AreLoadLists, AreRings}
use Rattle.report_lines.specs.LineOrder.{IsLineOrder}
use Rattle.loop_report.specs.Report.{IsOrderReport, IsReport, IsReportIn, head_line, loop_line, place_line, unreached_lines}
use Rattle.report_lines.specs.Reportable.{AreReportable, LeastDiffer}
use Rattle.report_lines.proofs.LineOrder.{line_at, line_cmp, line_cmp_total, ordered, places}
use Rattle.loop_report.proofs.LoopsMade.{loops_made}
use Rattle.report_lines.proofs.Printable.{least_differ, members_are_nodes}
use Rattle.laws.proofs.ModuleLists.{lists_closed, load_lists, modules_of}
use Rattle.laws.proofs.Rings.{rings_of}

-- the groups are the classes of what the roots reach, in a legal order
abbrev pub AreOrdered : List (List ℕ) → List ℕ → List (List ℕ) → Type 0
AreOrdered lists roots groups =
    IsLegalOrder (Calls lists) groups × IsComplete roots groups × ((v : ℕ) → HasMember groups v → IsReached (Calls lists) roots v)

-- each graph has such groups
abbrev pub HaveOrders : Type 0
HaveOrders = (lists : List (List ℕ)) (roots : List ℕ) → IsClosed lists → All (λ root. root < length lists) roots
    → (groups : List (List ℕ)) × AreOrdered lists roots groups

pub loops_of : HaveOrders → (files : List Facts) → (loops : List (List (List ℕ))) × AreImportLoops files loops
loops_of orders files =
    let modules : (modules : List (List ℕ)) × AreModules files modules = modules_of files in
    let lists : (lists : List (List ℕ)) × AreLoadLists files modules.0 lists = load_lists files modules.0 in
    let roots : List ℕ = range_with_len 0 (length lists.0) in
    let closed : IsClosed lists.0 = lists_closed files modules.0 lists.0 lists.1 in
    let rooted : All (λ root. root < length lists.0) roots = all_by (λ root. root < length lists.0) roots (range_below (length lists.0)) in
    let order : (groups : List (List ℕ)) × AreOrdered lists.0 roots groups = orders lists.0 roots closed rooted in
    let rings : (classes : List (List ℕ)) × AreRings modules.0 lists.0 classes =
    rings_of modules.0 lists.0 order.0 (sym lists.1.each) order.1.0 order.1.1 (members_are_nodes lists.0 closed rooted order.1.2) in
    let loops : List (List (List ℕ)) = map (names_at modules.0) rings.0 in
    (loops, loops_made files modules.0 lists.0 rings.0 loops modules.1 lists.1 rings.1 refl)

-- the order of lines

pub line_order_of : (groups : List (List ℕ)) (levels : List Level) → LeastDiffer groups → (order : List ℕ) × IsLineOrder groups levels order
line_order_of groups levels differ =
    let lines = map (line_at groups levels) (range_with_len 0 (length groups)) in
    let rising : HasSorted line_cmp line_cmp_total lines = has_sorted line_cmp line_cmp_total lines in
    (places rising.sorted, ordered groups levels lines rising.sorted refl differ rising.moved rising.in_order)

-- reports

report_in : (predicates : List PredName) (files : List Facts) (groups : List (List ℕ)) (levels : List Level) (unreached : Bool) (order : List ℕ)
    → (loops : List (List (List ℕ))) × AreImportLoops files loops → (bytes : List ℕ) × IsReportIn predicates files groups levels unreached order bytes
report_in predicates files groups levels unreached order loops = (
  head_line groups levels ++ flat_map (place_line predicates groups levels) order ++ flat_map loop_line loops.0
      ++ (if unreached then unreached_lines predicates groups else []),
  record { loops = loops.0; are_loops = loops.1; is = refl },
)

-- all files have import loops
abbrev pub HaveLoops : Type 0
HaveLoops = (files : List Facts) → (loops : List (List (List ℕ))) × AreImportLoops files loops

pub report_of : HaveLoops → (predicates : List PredName) (files : List Facts) (groups : List (List ℕ)) (levels : List Level) (unreached : Bool)
    → AreReportable (length predicates) groups levels → (bytes : List ℕ) × IsReport predicates files groups levels unreached bytes
report_of loops predicates files groups levels unreached are =
    let order : (order : List ℕ) × IsLineOrder groups levels order = line_order_of groups levels (least_differ are.legal) in
    let report : (bytes : List ℕ) × IsReportIn predicates files groups levels unreached order.0 bytes =
    report_in predicates files groups levels unreached order.0 (loops files) in
    (report.0, record { order = order.0; in_order = order.1; report = report.1 })

pub order_report_of : HaveLoops → (predicates : List PredName) (files : List Facts) (groups : List (List ℕ)) (levels : List Level) (unreached : Bool)
    → (bytes : List ℕ) × IsOrderReport predicates files groups levels unreached bytes
order_report_of loops predicates files groups levels unreached =
    report_in predicates files groups levels unreached (range_with_len 0 (length groups)) (loops files)
