-- The cycles of groups.
use Rattle.std.proofs.Common.{◌≡◌, ℕ, Bool, true, false, not, ◌<◌, ◌++◌, ◌∷◌, [], List, Option, Some, None, All, length, get_or, map, sym, ap, ◌∙◌, subst, arith}
use Rattle.std.specs.List.{flat_map}
use Rattle.std.proofs.lemmas.List.{get_or_default}
use Rattle.std.proofs.lemmas.List.Folds.{flat_map-map}
use Rattle.graph_law.specs.Classes.{IsClass, group_at, least_member}
use Rattle.graph_law.specs.Graph.{Calls, IsClosed}
use Rattle.graph_law.proofs.ClassLaws.{least_is_member}
use Rattle.group_release.specs.declared.level.Level.{Level}
use Rattle.loop_paths.specs.Circuits.{AreCircuits, IsCircuit}
use Rattle.loop_paths.proofs.OneLeast.{one_circuit}
use Rattle.loop_paths.proofs.PathNodes.{circuit_below}
use Rattle.component_report.specs.Cycles.{IsCycleWithin, cycle_line}
use Rattle.report_lines.specs.Reportable.{AreLeveled}
use Rattle.component_report.specs.declared.form.Form.{Form}
use Rattle.report_lines.proofs.OneLine.{same_lines, same_values}
use Rattle.report_lines.proofs.Printable.{members_are_nodes}
use Rattle.component_answer.specs.Answers.{AreLoops, IsPart}

-- the nodes of a cycle are nodes of the graph

cycle_within : (lists : List (List ℕ)) → IsClosed lists → (p : ℕ) → p < length lists → (found : Option (List ℕ)) → IsCircuit (Calls lists) p found
    → IsCycleWithin (length lists) found
cycle_within lists closed p low None is = tt
cycle_within lists closed p low (Some cycle) is = circuit_below lists closed p low cycle is

pub cycles_within : (lists : List (List ℕ)) (starts : List ℕ) (groups : List (List ℕ)) (levels : List Level) (cycles : List (Option (List ℕ))) (count : ℕ)
    → IsClosed lists → All (λ start. start < length lists) starts → AreLeveled (Calls lists) starts groups levels
    → AreCircuits (Calls lists) groups cycles → length lists ≡ count → All (IsCycleWithin count) cycles
cycles_within lists starts groups levels cycles count closed within leveled are is = λ k d lt.
    let each = are.each in
    let inside : k < length groups = omega (arith, lt, each) in
    let class : IsClass (Calls lists) (group_at groups k) = leveled.are.legal.each k [] inside in
    let node : least_member (group_at groups k) < length lists =
    members_are_nodes lists closed within leveled.are.reached (least_member (group_at groups k))
    (record { place = k; within = inside; member = least_is_member class }) in
    let below : IsCycleWithin (length lists) (get_or cycles k None) =
    cycle_within lists closed (least_member (group_at groups k)) node (get_or cycles k None) (are.at k inside) in
    subst (λ n. IsCycleWithin n (get_or cycles k d)) is (subst (IsCycleWithin (length lists)) (get_or_default cycles k None d lt) below)

-- groups that are the same in any legal order have the same lines of cycles

abbrev cycle_at : List (Option (List ℕ)) → ℕ → Option (List ℕ)
cycle_at cycles place = get_or cycles place None

same_loops : (lists : List (List ℕ)) (form : Form) (names : List (List ℕ)) {starts : List ℕ} {groups others : List (List ℕ)} {levels marks : List Level}
    (bytes other : List ℕ) → AreLeveled (Calls lists) starts groups levels → AreLeveled (Calls lists) starts others marks
    → AreLoops lists form names groups levels bytes → AreLoops lists form names others marks other → bytes ≡ other
same_loops lists form names {starts} {groups} {others} {levels} {marks} bytes other a b first second =
    let same = same_lines a b first.lines.order second.lines.order first.lines.in_order second.lines.in_order in
    let found =
    same_values groups others levels marks first.lines.order second.lines.order first.lines.in_order second.lines.in_order same None
    (λ group cycle. IsCircuit (Calls lists) (least_member group) cycle) (λ group a b. one_circuit (Calls lists) (least_member group) a b)
    first.cycles second.cycles first.are.at second.are.at in
    first.lines.is
    ∙ (sym (flat_map-map (cycle_line form names) (cycle_at first.cycles) first.lines.order)
    ∙ (ap (flat_map (cycle_line form names)) found
    ∙ (flat_map-map (cycle_line form names) (cycle_at second.cycles) second.lines.order ∙ sym second.lines.is)))

pub same_part : (wanted : Bool) (lists : List (List ℕ)) (form : Form) (names : List (List ℕ)) {starts : List ℕ} {groups others : List (List ℕ)}
    {levels marks : List Level} (bytes other : List ℕ) → AreLeveled (Calls lists) starts groups levels → AreLeveled (Calls lists) starts others marks
    → IsPart wanted (AreLoops lists form names groups levels) bytes → IsPart wanted (AreLoops lists form names others marks) other → bytes ≡ other
same_part true lists form names bytes other a b first second = same_loops lists form names bytes other a b first second
same_part false lists form names bytes other a b first second = first ∙ sym second

-- a part that is wanted
pub part_of : (wanted : Bool) (Is : List ℕ → Type 0) (bytes : List ℕ) → not wanted ≡ false → Is bytes → IsPart wanted Is bytes
part_of true Is bytes is part = part
part_of false Is bytes is part = absurd (let clash : true ≡ false = is in cc)
