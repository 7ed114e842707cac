-- The lines of walks and of circuits.
use Rattle.std.specs.Prelude.{◌≡◌, ℕ, ◌<◌, List, [], ◌++◌, Option, None, Some, Vec, All, option_map, slice_index_or, codes}
use Rattle.std.specs.List.{flat_map}
use Rattle.group_release.specs.declared.level.Level.{Level}
use Rattle.import_rules.specs.declared.names.PredName.{PredName}
use Rattle.loop_report.specs.Names.{member_name}
use Rattle.report_lines.specs.LineOrder.{IsLineOrder}

-- the line of a walk: `WORD NAME NAME ..`
abbrev pub walk_line : List PredName → List ℕ → List ℕ → List ℕ
walk_line predicates word walk = word ++ flat_map (member_name predicates) walk ++ codes "\n"

-- the line of a circuit: `loop NAME NAME ..`, and none where there is no circuit
abbrev pub circuit_line : List PredName → Option (List ℕ) → List ℕ
circuit_line predicates None = []
circuit_line predicates (Some circuit) = walk_line predicates (codes "loop") circuit

-- the nodes of a circuit are below the count
abbrev pub IsCircuitWithin : ℕ → Option (List ℕ) → Type 0
IsCircuitWithin count None = Unit {0}
IsCircuitWithin count (Some circuit) = All (λ node. node < count) circuit

-- the contents of what was found
abbrev pub see_circuit : {A : Type 0} → Option (Vec ℕ A) → Option (List ℕ)
see_circuit found = option_map (λ circuit. circuit.items) found

-- the line of the circuit at a place
abbrev pub circuit_line_at : List PredName → List (Option (List ℕ)) → ℕ → List ℕ
circuit_line_at predicates circuits place = circuit_line predicates (slice_index_or circuits place None)

-- the lines of the groups' circuits, in order of height and least member
pub record AreCircuitLines (predicates : List PredName) (groups : List (List ℕ)) (levels : List Level) (circuits : List (Option (List ℕ)))
    (bytes : List ℕ) : Type 0 where
  pub order : List ℕ
  pub in_order : IsLineOrder groups levels order
  pub is : bytes ≡ flat_map (circuit_line_at predicates circuits) order
