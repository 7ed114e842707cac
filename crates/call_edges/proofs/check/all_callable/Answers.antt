use Rattle.std.proofs.Common.{◌≡◌, ℕ, true, false, List, [], length, ap, sym, ◌∙◌, subst, arith}
use Rattle.std.proofs.lemmas.Bool.{eqb-true, eq-eqb}
use Rattle.std.proofs.lemmas.List.{nil_from_length}
use Rattle.call_edges.specs.FaultPlaces.{AreFaultPlaces}
use Rattle.call_edges.proofs.GoalFaultLemmas.{goal_faults, some_faults}
use Rattle.call_edges.proofs.check.all_callable.Goals as goal

pub returns-then-is_empty-clause-callable : goal.returns-then-is_empty-clause-callable
returns-then-is_empty-clause-callable g c =
    let seen = c.args.program.now in
    let faults = c.in_ok-faults.faults in
    let none = eqb-true faults.len 0 (sym c.is_empty.ensures ∙ c.if-is_empty.true) in
    let empty : faults.items ≡ [] = nil_from_length faults.items (omega (arith, none, faults.ok.0)) in
    let P : List (ℕ × ℕ) → Type 0 = λ xs. AreFaultPlaces seen xs in
    goal_faults seen c.is_known.ensures [] [] (subst P empty c.in_ok-faults.ensures) tt

pub returns-clause-refused : goal.returns-clause-refused
returns-clause-refused g c =
    let seen = c.args.program.now in
    let faults = c.in_ok-faults.faults in
    let places = c.deref-2.result.now in
    let P : List (ℕ × ℕ) → Type 0 = λ xs. AreFaultPlaces seen xs in
    let are : AreFaultPlaces seen places = subst P (sym c.deref-2.ensures.value) c.in_ok-faults.ensures in
    let some : places ≡ [] → ⊥ = λ empty.
    let none : faults.len ≡ 0 = omega (arith, ap length empty, ap length c.deref-2.ensures.value, faults.ok.0) in
    let both : true ≡ false = sym (eq-eqb faults.len 0 none) ∙ (sym c.is_empty.ensures ∙ c.if-is_empty.false) in
    cc in (
      goal_faults seen c.is_known.ensures places c.in_ok-faults_with_places.field-0.items are c.in_ok-faults_with_places.ensures,
      some_faults _ places c.in_ok-faults_with_places.field-0.items c.in_ok-faults_with_places.ensures some,
    )
