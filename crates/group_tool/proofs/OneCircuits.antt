-- Groups that are the same in any legal order have one list of circuit lines.
use Rattle.std.proofs.Common.{◌≡◌, ℕ, ◌<◌, List, Option, None, length, get_or, map, sym, ap, ◌∙◌, subst, arith}
use Rattle.std.specs.List.{flat_map}
use Rattle.std.proofs.lemmas.List.Folds.{flat_map-map}
use Rattle.graph_law.specs.Classes.{least_member}
use Rattle.group_release.specs.declared.level.Level.{Level}
use Rattle.import_rules.specs.declared.names.PredName.{PredName}
use Rattle.loop_paths.specs.Circuits.{AreCircuits, IsCircuit}
use Rattle.loop_paths.proofs.OneLeast.{one_circuit}
use Rattle.report_lines.specs.Reportable.{AreLeveled}
use Rattle.loop_report.specs.Walks.{AreCircuitLines, circuit_line}
use Rattle.report_lines.proofs.OneLine.{same_lines, same_values}

abbrev circuit_at : List (Option (List ℕ)) → ℕ → Option (List ℕ)
circuit_at circuits place = get_or circuits place None

pub same_circuit_lines : {calls : ℕ → ℕ → Type 0} {starts : List ℕ} {groups others : List (List ℕ)} {levels marks : List Level} (predicates : List PredName)
    (circuits rounds : List (Option (List ℕ))) (bytes other : List ℕ) → AreLeveled calls starts groups levels → AreLeveled calls starts others marks
    → AreCircuits calls groups circuits → AreCircuits calls others rounds
    → AreCircuitLines predicates groups levels circuits bytes → AreCircuitLines predicates others marks rounds other → bytes ≡ other
same_circuit_lines {calls} {starts} {groups} {others} {levels} {marks} predicates circuits rounds bytes other a b are also first second =
    let same = same_lines a b first.order second.order first.in_order second.in_order in
    let found =
    same_values groups others levels marks first.order second.order first.in_order second.in_order same None
    (λ group circuit. IsCircuit calls (least_member group) circuit) (λ group a b. one_circuit calls (least_member group) a b)
    circuits rounds are.at also.at in
    first.is
    ∙ (sym (flat_map-map (circuit_line predicates) (circuit_at circuits) first.order)
    ∙ (ap (flat_map (circuit_line predicates)) found ∙ (flat_map-map (circuit_line predicates) (circuit_at rounds) second.order ∙ sym second.is)))
