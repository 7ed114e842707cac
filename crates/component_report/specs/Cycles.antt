-- The lines of the cycles of recursive groups.
use Rattle.std.specs.Prelude.{◌≡◌, ℕ, ◌<◌, List, [], ◌++◌, Option, None, Some, Vec, All, option_map, slice_index_or, codes}
use Rattle.std.specs.List.{flat_map}
use Rattle.group_release.specs.declared.level.Level.{Level}
use Rattle.component_report.specs.Json.{with_commas}
use Rattle.component_report.specs.JsonLines.{json_member}
use Rattle.report_lines.specs.LineOrder.{IsLineOrder}
use Rattle.component_report.specs.Report.{member_text}
use Rattle.component_report.specs.declared.form.Form.{Form}
use Rattle.component_report.specs.declared.form.Form.TheVariants.{Lines, Json}

-- the line of a cycle: `loop NAME NAME ..`, or `{"loop":["NAME","NAME"]}`
abbrev pub loop_line : Form → List (List ℕ) → List ℕ → List ℕ
loop_line Lines names cycle = codes "loop" ++ flat_map (member_text names) cycle ++ codes "\n"
loop_line Json names cycle = codes "{\"loop\":[" ++ with_commas (json_member names) cycle ++ codes "]}\n"

-- none where there is no cycle
abbrev pub cycle_line : Form → List (List ℕ) → Option (List ℕ) → List ℕ
cycle_line form names None = []
cycle_line form names (Some cycle) = loop_line form names cycle

-- the nodes of a cycle are below the count
abbrev pub IsCycleWithin : ℕ → Option (List ℕ) → Type 0
IsCycleWithin count None = Unit {0}
IsCycleWithin count (Some cycle) = All (λ node. node < count) cycle

-- the contents of what was found
abbrev pub see_cycle : {A : Type 0} → Option (Vec ℕ A) → Option (List ℕ)
see_cycle found = option_map (λ cycle. cycle.items) found

-- the line of the cycle of the group at a place
abbrev pub cycle_line_at : Form → List (List ℕ) → List (Option (List ℕ)) → ℕ → List ℕ
cycle_line_at form names cycles place = cycle_line form names (slice_index_or cycles place None)

-- the lines of the groups' cycles, in order of height and least member
pub record AreCycleLines (form : Form) (names groups : List (List ℕ)) (levels : List Level) (cycles : List (Option (List ℕ)))
    (bytes : List ℕ) : Type 0 where
  pub order : List ℕ
  pub in_order : IsLineOrder groups levels order
  pub is : bytes ≡ flat_map (cycle_line_at form names cycles) order
