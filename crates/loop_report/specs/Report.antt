-- The report: a head line, a line for each group, a line for each import loop, and where they are asked for the predicates that are in no group.
use Rattle.std.specs.Prelude.{◌≡◌, ℕ, Bool, not, List, [], ◌++◌, length, nat_eq}
use Rattle.std.specs.Prelude.{if◌then◌else◌, codes}
use Rattle.std.specs.Fmt.{decimal}
use Rattle.std.specs.List.{flat_map, filter, list_any, range_with_len}
use Rattle.graph_law.specs.Classes.{group_at}
use Rattle.group_release.specs.declared.level.Level.{Level}
use Rattle.group_release.specs.Level.{level_at}
use Rattle.module_table.specs.Facts.{Facts}
use Rattle.import_rules.specs.declared.names.PredName.{PredName}
use Rattle.report_lines.specs.Head.{head_of, kind_of}
use Rattle.report_lines.specs.LineOrder.{IsLineOrder}
use Rattle.loop_report.specs.Spelled.{spelled_name}
use Rattle.loop_report.specs.Names.{member_name}
use Rattle.loop_report.specs.ImportLoops.{AreImportLoops}

-- the line of a group: `HEIGHT KIND NAME NAME ..`
abbrev pub group_line : List PredName → List ℕ → Level → List ℕ
group_line predicates members level = decimal level.height ++ kind_of level.recursive ++ flat_map (member_name predicates) members ++ codes "\n"

-- the first line: `predicates P groups G recursive R levels L`
abbrev pub head_line : List (List ℕ) → List Level → List ℕ
head_line groups levels = head_of (codes "predicates ") groups levels

-- the line of the group at a place
abbrev pub place_line : List PredName → List (List ℕ) → List Level → ℕ → List ℕ
place_line predicates groups levels place = group_line predicates (group_at groups place) (level_at levels place)

-- names as a line has them: each after a space, and spelled
abbrev pub loop_names : List (List ℕ) → List ℕ
loop_names names = flat_map (λ name. codes " " ++ spelled_name name) names

-- the line of an import loop: `import-loop NAME NAME ..`
abbrev pub loop_line : List (List ℕ) → List ℕ
loop_line names = codes "import-loop" ++ loop_names names ++ codes "\n"

-- the node is a member of one of the groups
abbrev pub is_grouped : List (List ℕ) → ℕ → Bool
is_grouped groups node = list_any (λ group. list_any (nat_eq node) group) groups

-- the nodes below the count that are in no group, ascending
abbrev pub ungrouped : List (List ℕ) → ℕ → List ℕ
ungrouped groups count = filter (λ node. not (is_grouped groups node)) (range_with_len 0 count)

-- the line of a predicate that is in no group: `unreached NAME`
abbrev pub unreached_line : List PredName → ℕ → List ℕ
unreached_line predicates node = codes "unreached" ++ member_name predicates node ++ codes "\n"

abbrev pub unreached_lines : List PredName → List (List ℕ) → List ℕ
unreached_lines predicates groups = flat_map (unreached_line predicates) (ungrouped groups (length predicates))

-- the bytes are the report with the lines of the groups in this order
pub record IsReportIn (predicates : List PredName) (files : List Facts) (groups : List (List ℕ)) (levels : List Level) (unreached : Bool)
    (order bytes : List ℕ) : Type 0 where
  pub loops : List (List (List ℕ))
  pub are_loops : AreImportLoops files loops
  pub is : bytes
      ≡ head_line groups levels ++ flat_map (place_line predicates groups levels) order ++ flat_map loop_line loops
      ++ (if unreached then unreached_lines predicates groups else [])

-- the bytes are the report: the lines of the groups are in order of height and least member
pub record IsReport (predicates : List PredName) (files : List Facts) (groups : List (List ℕ)) (levels : List Level) (unreached : Bool)
    (bytes : List ℕ) : Type 0 where
  pub order : List ℕ
  pub in_order : IsLineOrder groups levels order
  pub report : IsReportIn predicates files groups levels unreached order bytes

-- the bytes are the report with the lines of the groups in the order of the groups
abbrev pub IsOrderReport : List PredName → List Facts → List (List ℕ) → List Level → Bool → List ℕ → Type 0
IsOrderReport predicates files groups levels unreached bytes = IsReportIn predicates files groups levels unreached (range_with_len 0 (length groups)) bytes
