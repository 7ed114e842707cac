-- The lines of a table of calls, as JSON: an object a line.
use Rattle.std.specs.Prelude.{ℕ, ◌-◌, ◌==◌, List, [], ◌∷◌, ◌++◌, Option, Some, None, Bool, true, false, ◌&&◌, is_some, slice_get, if◌then◌else◌, codes}
use Rattle.std.specs.Fmt.{decimal}
use Rattle.std.specs.List.{flat_map}
use Rattle.prolog_tokens.specs.declared.token.Place.{Place}
use Rattle.file_library.specs.Loaded.{NamedText}
use Rattle.graph_law.specs.Classes.{group_at, least_member}
use Rattle.group_release.specs.declared.level.Level.{Level}
use Rattle.group_release.specs.Level.{level_at}
use Rattle.import_rules.specs.declared.names.PredName.{PredName}
use Rattle.import_rules.specs.Program.{Seen, meta_in}
use Rattle.module_table.specs.declared.goal_arg.GoalArg.{GoalArg}
use Rattle.call_edges.specs.CallPlaces.{CallAt}
use Rattle.call_table.specs.declared.clause_at.ClauseAt.{ClauseAt}
use Rattle.call_table.specs.declared.extents.Extent.{Extent}
use Rattle.call_table.specs.declared.marks.NodeMarks.{NodeMarks}
use Rattle.call_writer.specs.Json.{json_string, truth}
use Rattle.call_writer.specs.Marks.{mark_fields}

-- the name of a file, and the line and the column there
abbrev pub file_name : Option NamedText → List ℕ
file_name (Some text) = text.0
file_name None = []

abbrev pub place_fields : List ℕ → Place → List ℕ
place_fields file place =
    codes "\"file\":" ++ (json_string file ++ (codes ",\"line\":" ++ (decimal place.line ++ (codes ",\"column\":" ++ decimal place.column))))

-- `,"file":"f.pl","line":`, what stands in a line up to a line of that file
abbrev pub after_file : List ℕ → List ℕ
after_file file = codes ",\"file\":" ++ (json_string file ++ codes ",\"line\":")

-- a line and a column of the file at a place among the files
abbrev pub spot_fields : Seen → ℕ → Place → List ℕ
spot_fields seen file place = place_fields (file_name (slice_get seen.loaded.texts file)) place

-- a name in a module
abbrev pub name_fields : PredName → List ℕ
name_fields name =
    codes "\"module\":" ++ (json_string name.module ++ (codes ",\"name\":" ++ (json_string name.name ++ (codes ",\"arity\":" ++ decimal name.arity))))

-- `,"module":"user","name":"`, what stands in a line up to the characters of a name in that module
abbrev pub after_module : List ℕ → List ℕ
after_module owner = codes ",\"module\":" ++ (json_string owner ++ codes ",\"name\":\"")

-- a number, or that there is none
abbrev pub number_or_null : Option ℕ → List ℕ
number_or_null (Some n) = decimal n
number_or_null None = codes "null"

-- `{"is":"call","caller":0,"callee":1`
abbrev pub call_head : ℕ → Option ℕ → List ℕ
call_head caller callee = codes "{\"is\":\"call\",\"caller\":" ++ (decimal caller ++ (codes ",\"callee\":" ++ number_or_null callee))

-- `,"added":0,"negated":false}`
abbrev pub call_end : ℕ → Bool → List ℕ
call_end added negated = codes ",\"added\":" ++ (decimal added ++ (codes ",\"negated\":" ++ (truth negated ++ codes "}\n")))

-- the line of a call, with the predicate that its name means, as
-- `{"is":"call","caller":0,"callee":1,"module":"user","name":"q","arity":0,"file":"f.pl","line":1,"column":6,"added":0,"negated":false}`
abbrev pub call_line : Seen → CallAt → Place → List ℕ
call_line seen c place =
    call_head c.caller c.means
    ++ (codes "," ++ (name_fields c.callee ++ (codes "," ++ (spot_fields seen c.file place ++ call_end c.added c.negated))))

-- a call has a line, unless only those are told whose name means no predicate, and it means one
abbrev pub call_line_if : Bool → Seen → CallAt → Place → List ℕ
call_line_if undefined seen c place =
    if undefined && is_some c.means then [] else call_line seen c place

-- `{"is":"call","caller":null,"callee":1`
abbrev pub directive_head : Option ℕ → List ℕ
directive_head callee = codes "{\"is\":\"call\",\"caller\":null,\"callee\":" ++ number_or_null callee

-- the line of a call of a directive, which has no caller, as
-- `{"is":"call","caller":null,"callee":1,"module":"user","name":"q","arity":0,"file":"f.pl","line":1,"column":4,"directive":true,"added":0,"negated":false}`
abbrev pub directive_line : Seen → CallAt → Place → List ℕ
directive_line seen c place =
    directive_head c.means
    ++ (codes ","
    ++ (name_fields c.callee ++ (codes "," ++ (spot_fields seen c.file place ++ (codes ",\"directive\":true" ++ call_end c.added c.negated)))))

-- such a call has a line where another one has
abbrev pub directive_line_if : Bool → Seen → CallAt → Place → List ℕ
directive_line_if undefined seen c place = if undefined && is_some c.means then [] else directive_line seen c place

-- a line and a column directly after what stands before them
abbrev pub end_fields : Place → List ℕ
end_fields end = codes "\"end_line\":" ++ (decimal end.line ++ (codes ",\"end_column\":" ++ decimal end.column))

-- `{"is":"clause","predicate":0,"file":"f.pl","line":1,"column":1,"end_line":1,"end_column":7}`
abbrev pub clause_line : Seen → ClauseAt → Extent → List ℕ
clause_line seen c extent =
    codes "{\"is\":\"clause\",\"predicate\":"
    ++ (decimal c.node ++ (codes "," ++ (spot_fields seen c.file extent.start ++ (codes "," ++ (end_fields extent.end ++ codes "}\n")))))

-- the least number of a group, the group's height, and whether it is recursive
abbrev pub level_fields : ℕ → Level → List ℕ
level_fields least level =
    codes "\"group\":" ++ (decimal least ++ (codes ",\"height\":" ++ (decimal level.height ++ (codes ",\"recursive\":" ++ truth level.recursive))))

-- those of the group at one less than the place; `null` where it is 0, in no group
abbrev pub group_fields : List (List ℕ) → List Level → ℕ → List ℕ
group_fields groups levels place =
    if place == 0 then codes "\"group\":null,\"height\":null,\"recursive\":null"
    else level_fields (least_member (group_at groups (place - 1))) (level_at levels (place - 1))

-- `{"is":"predicate","id":0,"module":"user","name":"p","arity":0`
abbrev pub predicate_head : ℕ → PredName → List ℕ
predicate_head node name = codes "{\"is\":\"predicate\",\"id\":" ++ (decimal node ++ (codes "," ++ name_fields name))

-- `{"is":"predicate","id":0,"module":"user","name":"p","arity":0,"group":0,"height":1,"recursive":true,`, and then
-- `"exported":false,"meta":null,"root":["file"],"dynamic":false,"multifile":false}`
abbrev pub predicate_line : List (List ℕ) → List Level → ℕ → PredName → ℕ → NodeMarks → List GoalArg → List ℕ
predicate_line groups levels node name place marks args =
    predicate_head node name ++ (codes "," ++ (group_fields groups levels place ++ (mark_fields marks args ++ codes "}\n")))

-- that of the predicate of that number, and nothing where there is none
abbrev pub predicate_line_of : Seen → List (List ℕ) → List Level → ℕ → ℕ → NodeMarks → List ℕ
predicate_line_of seen groups levels node place marks =
    elim (slice_get seen.predicates node) [ Some name ↦ predicate_line groups levels node name place marks (meta_in seen node) | None ↦ [] ]

-- numbers with commas between them
abbrev pub after_comma : ℕ → List ℕ
after_comma n = codes "," ++ decimal n

abbrev pub listed : List ℕ → List ℕ
listed [] = []
listed (n ∷ ns) = decimal n ++ flat_map after_comma ns

-- `{"is":"group","id":0,"height":1,"recursive":true`
abbrev pub group_head : ℕ → Level → List ℕ
group_head least level =
    codes "{\"is\":\"group\",\"id\":"
    ++ (decimal least ++ (codes ",\"height\":" ++ (decimal level.height ++ (codes ",\"recursive\":" ++ truth level.recursive))))

-- `{"is":"group","id":0,"height":1,"recursive":true,"members":[0,1]}`
abbrev pub group_line : ℕ → List ℕ → Level → List ℕ
group_line least members level = group_head least level ++ (codes ",\"members\":[" ++ (listed members ++ codes "]}\n"))

-- the line of a group where the node is its least member, and nothing at its other members
abbrev pub line_at_least : ℕ → List ℕ → Level → List ℕ
line_at_least node members level = if least_member members == node then group_line node members level else []

-- that of the group at one less than the place; nothing where it is 0, in no group
abbrev pub group_line_at : List (List ℕ) → List Level → ℕ → ℕ → List ℕ
group_line_at groups levels node place = if place == 0 then [] else line_at_least node (group_at groups (place - 1)) (level_at levels (place - 1))
