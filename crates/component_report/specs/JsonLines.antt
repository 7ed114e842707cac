-- The lines of the report in JSON.
use Rattle.std.specs.Prelude.{ℕ, ◌+◌, Bool, List, [], ◌∷◌, ◌++◌, length, sum_by, count_by, if◌then◌else◌, codes}
use Rattle.std.specs.Fmt.{decimal}
use Rattle.graph_law.specs.Classes.{group_at}
use Rattle.group_release.specs.declared.level.Level.{Level}
use Rattle.group_release.specs.Level.{level_at}
use Rattle.byte_names.specs.Names.{name_at}
use Rattle.report_lines.specs.Head.{height_count}
use Rattle.component_report.specs.Json.{json_name, with_commas}

-- the first line: `{"nodes":N,"groups":G,"recursive":R,"levels":L}`
abbrev pub json_head : List (List ℕ) → List Level → List ℕ
json_head groups levels =
    (codes "{\"nodes\":" ++ decimal (sum_by length groups)) ++ (codes ",\"groups\":" ++ decimal (length groups))
    ++ (codes ",\"recursive\":" ++ decimal (count_by (λ (level : Level). level.recursive) levels))
    ++ (codes ",\"levels\":" ++ decimal (height_count levels)) ++ codes "}\n"

abbrev pub truth_of : Bool → List ℕ
truth_of truth = if truth then codes "true" else codes "false"

abbrev pub json_member : List (List ℕ) → ℕ → List ℕ
json_member names member = json_name (name_at names member)

-- the line of a group with this number: `{"id":N,"height":H,"recursive":true,"members":["NAME","NAME"]}`
abbrev pub json_group : List (List ℕ) → ℕ → List ℕ → Level → List ℕ
json_group names id members level =
    (codes "{\"id\":" ++ decimal id) ++ (codes ",\"height\":" ++ decimal level.height)
    ++ (codes ",\"recursive\":" ++ truth_of level.recursive) ++ (codes ",\"members\":[" ++ with_commas (json_member names) members) ++ codes "]}\n"

-- the lines of the groups at these places, which are numbered from this number on
abbrev pub json_lines : List (List ℕ) → List (List ℕ) → List Level → ℕ → List ℕ → List ℕ
json_lines names groups levels id [] = []
json_lines names groups levels id (place ∷ places) =
    json_group names id (group_at groups place) (level_at levels place) ++ json_lines names groups levels (id + 1) places
