-- A report on a graph of few nodes with short names is short.
use Rattle.std.proofs.Common.{◌≡◌, inl, inr, ℕ, ◌+◌, ◌*◌, ◌^◌, ◌<◌, ◌≤◌, Bool, true, false, List, [], ◌∷◌, Option, Some, None, All, IsPermutation, length, sum_by, get_or, sym, ap, ◌∙◌, length-append, arith}
use Rattle.std.specs.List.{flat_map, range_with_len}
use Rattle.std.proofs.lemmas.Bool.{cases_lt}
use Rattle.std.proofs.lemmas.List.{get_or_past}
use Rattle.std.proofs.lemmas.List.Concat.{length-flat_map}
use Rattle.std.proofs.lemmas.List.Sorted.{IsPermutation-refl}
use Rattle.std.proofs.lemmas.List.Sums.{sum_by-cons, sum_by-le-sum_by}
use Rattle.edge_text.specs.declared.limits.TheConstants.{MOST_NODES}
use Rattle.graph_law.specs.Classes.{HasMember, group_at, least_member}
use Rattle.graph_law.specs.Graph.{Calls, IsClosed}
use Rattle.graph_law.proofs.ClassLaws.{least_is_member}
use Rattle.list_laws.proofs.OneOrder.{sum_by_places}
use Rattle.group_release.specs.declared.level.Level.{Level}
use Rattle.group_release.specs.Level.{level_at}
use Rattle.group_release.proofs.FewGroups.{few_groups}
use Rattle.loop_paths.specs.Circuits.{AreCircuits, IsCircuit}
use Rattle.component_report.specs.Cycles.{cycle_line, cycle_line_at}
use Rattle.component_report.specs.JsonLines.{json_group, json_head, json_lines}
use Rattle.component_report.specs.Report.{head_line, place_line, report_in}
use Rattle.report_lines.specs.Reportable.{AreLeveled}
use Rattle.component_report.specs.declared.form.Form.{Form}
use Rattle.component_report.specs.declared.form.Form.TheVariants.{Lines, Json}
use Rattle.component_answer.specs.declared.answer.Wanted.{Wanted}
use Rattle.component_answer.specs.Answers.{AreLoops, IsPart, IsReachReport, IsReportBy}
use Rattle.report_lines.proofs.Printable.{members_are_nodes}
use Rattle.component_laws.proofs.Distinct.{few_members}
use Rattle.component_laws.proofs.ShortCircuits.{circuit_short}
use Rattle.component_laws.proofs.ShortLines.{group_short, head_short, json_group_short, json_head_short, loop_short, most_line, most_text}
use Rattle.component_laws.proofs.ShortTexts.{AreShort}

-- lines of groups, in any order

-- a line with as many names as the group at a place
abbrev line_at : List (List ℕ) → ℕ → ℕ
line_at groups place = most_line (length (group_at groups place))

lines_sum : (groups : List (List ℕ)) → sum_by (λ (group : List ℕ). most_line (length group)) groups ≡ 400 * length groups + sum_by length groups * most_text
lines_sum [] = omega arith
lines_sum (group ∷ groups) =
    omega (arith, sum_by-cons (λ (each : List ℕ). most_line (length each)) group groups, sum_by-cons length group groups, lines_sum groups)

in_order : (groups : List (List ℕ)) (order : List ℕ) → IsPermutation (range_with_len 0 (length groups)) order
    → sum_by (line_at groups) order ≡ 400 * length groups + sum_by length groups * most_text
in_order groups order moved = sym (sum_by_places (λ (group : List ℕ). most_line (length group)) [] groups order moved) ∙ lines_sum groups

flat_lines : (groups : List (List ℕ)) (order : List ℕ) → IsPermutation (range_with_len 0 (length groups)) order → (f : ℕ → List ℕ)
    → ((place : ℕ) → length (f place) ≤ line_at groups place) → length (flat_map f order) ≤ 400 * length groups + sum_by length groups * most_text
flat_lines groups order moved f each =
    let upto : sum_by (λ place. length (f place)) order ≤ sum_by (line_at groups) order =
    sum_by-le-sum_by (λ place. length (f place)) (line_at groups) order each in
    omega (arith, length-flat_map f order, upto, in_order groups order moved)

module _ (names : List (List ℕ)) (short : AreShort names) (groups : List (List ℕ)) (levels : List Level) where
  json_lines_short : (id : ℕ) (places : List ℕ) → length (json_lines names groups levels id places) ≤ sum_by (line_at groups) places
  json_lines_short id [] = omega arith
  json_lines_short id (place ∷ places) =
      let first = json_group_short names short id (group_at groups place) (level_at levels place) in
      let rest = json_lines_short (id + 1) places in
      omega (
        arith,
        first,
        rest,
        sum_by-cons (line_at groups) place places,
        length-append (json_group names id (group_at groups place) (level_at levels place)) (json_lines names groups levels (id + 1) places),
      )

  report_short : (form : Form) (order : List ℕ) → IsPermutation (range_with_len 0 (length groups)) order
      → length (report_in form names groups levels order) ≤ 400 + (400 * length groups + sum_by length groups * most_text)
  report_short Lines order moved =
      let lines = flat_lines groups order moved (place_line names groups levels) (λ place. group_short names short (group_at groups place) (level_at levels place)) in
      omega (arith, lines, head_short groups levels, length-append (head_line groups levels) (flat_map (place_line names groups levels) order))
  report_short Json order moved =
      let lines = json_lines_short 0 order in
      omega (arith, lines, in_order groups order moved, json_head_short groups levels, length-append (json_head groups levels) (json_lines names groups levels 0 order))

  report_by_short : (order : Bool) (form : Form) (bytes : List ℕ) → IsReportBy order form names groups levels bytes
      → length bytes ≤ 400 + (400 * length groups + sum_by length groups * most_text)
  report_by_short true form bytes is =
      let all = report_short form (range_with_len 0 (length groups)) (IsPermutation-refl (range_with_len 0 (length groups))) in
      omega (arith, ap length is, all)
  report_by_short false form bytes is =
      let all = report_short form is.order is.in_order.each_once in
      omega (arith, ap length is.is, all)

  -- lines of cycles

  module _ (lists : List (List ℕ)) (starts : List ℕ) (leveled : AreLeveled (Calls lists) starts groups levels) where
    cycle_short : (form : Form) (place : ℕ) → place < length groups → (found : Option (List ℕ)) → IsCircuit (Calls lists) (least_member (group_at groups place)) found
        → length (cycle_line form names found) ≤ line_at groups place
    cycle_short form place lt None is = omega arith
    cycle_short form place lt (Some cycle) is =
        let class = leveled.are.legal.each place [] lt in
        let few = circuit_short (Calls lists) (group_at groups place) class (least_member (group_at groups place)) (least_is_member class) cycle is in
        omega (arith, few, loop_short names short form cycle)

    cycle_at_short : (form : Form) (cycles : List (Option (List ℕ))) → AreCircuits (Calls lists) groups cycles → (place : ℕ)
        → length (cycle_line_at form names cycles place) ≤ line_at groups place
    cycle_at_short form cycles are place = elim (cases_lt place (length groups)) [
      | inl lt ↦ cycle_short form place lt (get_or cycles place None) (are.at place lt)
      | inr past ↦
          let each = are.each in
          let none : get_or cycles place None ≡ None = get_or_past cycles place None (omega (arith, each, past)) in
          let empty : length (cycle_line_at form names cycles place) ≡ 0 = ap (λ found. length (cycle_line form names found)) none in
          omega (arith, empty)
    ]

    loops_short : (wanted : Bool) (form : Form) (bytes : List ℕ) → IsPart wanted (AreLoops lists form names groups levels) bytes
        → length bytes ≤ 400 * length groups + sum_by length groups * most_text
    loops_short false form bytes is = omega (arith, ap length is)
    loops_short true form bytes is =
        let all = flat_lines groups is.lines.order is.lines.in_order.each_once (cycle_line_at form names is.cycles) (cycle_at_short form is.cycles is.are) in
        omega (arith, ap length is.lines.is, all)

-- and so the whole report
pub bytes_short : (names lists : List (List ℕ)) (starts : List ℕ) (wanted : Wanted) (bytes : List ℕ) → AreShort names → IsClosed lists
    → length lists ≤ MOST_NODES → All (λ start. start < length lists) starts → IsReachReport names lists starts wanted bytes → length bytes < 2 ^ 63
bytes_short names lists starts wanted bytes short closed few within report =
    let groups = report.groups in
    let legal = report.leveled.are.legal in
    let nodes : (p : ℕ) → HasMember groups p → p < length lists = members_are_nodes lists closed within report.leveled.are.reached in
    let members : sum_by length groups ≤ length lists = few_members groups (length lists) legal nodes in
    let many : length groups ≤ length lists =
    few_groups (length lists) groups (λ k d lt. (legal.each k d lt).inhabited)
    (record { below = λ i p lt member. nodes p (record { place = i; within = lt; member = member }); once = legal.once }) in
    let told = report_by_short names short groups report.levels wanted.order wanted.form report.told report.report in
    let loops = loops_short names short groups report.levels lists starts report.leveled wanted.loops wanted.form report.loops report.are_loops in
    let whole : length bytes ≡ length report.told + length report.loops = ap length report.is ∙ length-append report.told report.loops in
    omega (arith, whole, told, loops, members, many, few)
