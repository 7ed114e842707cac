-- The report: a head line, and a line for each group.
use Rattle.std.specs.Prelude.{◌≡◌, ℕ, List, ◌++◌, length, codes}
use Rattle.std.specs.Fmt.{decimal}
use Rattle.std.specs.List.{flat_map, range_with_len}
use Rattle.graph_law.specs.Classes.{group_at}
use Rattle.group_release.specs.declared.level.Level.{Level}
use Rattle.group_release.specs.Level.{level_at}
use Rattle.byte_names.specs.Names.{name_at}
use Rattle.component_report.specs.declared.form.Form.{Form}
use Rattle.component_report.specs.declared.form.Form.TheVariants.{Lines, Json}
use Rattle.report_lines.specs.Head.{head_of, kind_of}
use Rattle.report_lines.specs.LineOrder.{IsLineOrder}
use Rattle.component_report.specs.JsonLines.{json_head, json_lines}

-- a space and the name of a node
abbrev pub member_text : List (List ℕ) → ℕ → List ℕ
member_text names member = codes " " ++ name_at names member

-- the line of a group: `HEIGHT KIND NAME NAME ..`
abbrev pub group_line : List (List ℕ) → List ℕ → Level → List ℕ
group_line names members level = decimal level.height ++ kind_of level.recursive ++ flat_map (member_text names) members ++ codes "\n"

-- the first line: `nodes N groups G recursive R levels L`
abbrev pub head_line : List (List ℕ) → List Level → List ℕ
head_line groups levels = head_of (codes "nodes ") groups levels

-- the line of the group at a place
abbrev pub place_line : List (List ℕ) → List (List ℕ) → List Level → ℕ → List ℕ
place_line names groups levels place = group_line names (group_at groups place) (level_at levels place)

-- the report with the lines of the groups in this order
abbrev pub report_in : Form → List (List ℕ) → List (List ℕ) → List Level → List ℕ → List ℕ
report_in Lines names groups levels order = head_line groups levels ++ flat_map (place_line names groups levels) order
report_in Json names groups levels order = json_head groups levels ++ json_lines names groups levels 0 order

-- the bytes are the report: the lines of the groups are in order of height and least member
pub record IsReport (form : Form) (names groups : List (List ℕ)) (levels : List Level) (bytes : List ℕ) : Type 0 where
  pub order : List ℕ
  pub in_order : IsLineOrder groups levels order
  pub is : bytes ≡ report_in form names groups levels order

-- the report with the lines of the groups in the order of the groups
abbrev pub order_report : Form → List (List ℕ) → List (List ℕ) → List Level → List ℕ
order_report form names groups levels = report_in form names groups levels (range_with_len 0 (length groups))
