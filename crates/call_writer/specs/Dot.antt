-- The graph of the predicates in the language of Graphviz.
use Rattle.std.specs.Prelude.{ℕ, ◌-◌, List, [], ◌∷◌, ◌++◌, Some, None, ◌==◌, if◌then◌else◌, chars, codes, slice_get, slice_index}
use Rattle.std.specs.Char.{encode_utf8}
use Rattle.std.specs.Fmt.{decimal}
use Rattle.std.specs.List.{flat_map}
use Rattle.graph_law.specs.Classes.{group_at, least_member}
use Rattle.group_release.specs.declared.level.Level.{Level}
use Rattle.import_rules.specs.declared.names.PredName.{PredName}

-- a character of a quoted label, as it is shown: a quote, a backslash and a newline as escapes, any other as it is
abbrev pub dot_char : ℕ → List ℕ
dot_char c =
    if c == 34 then codes "\\\""
    else if c == 92 then codes "\\\\"
    else if c == 10 then codes "\\n"
    else encode_utf8 c

abbrev pub dot_text : List ℕ → List ℕ
dot_text text = flat_map dot_char (chars text)

-- `MODULE:NAME/ARITY`
abbrev pub label : PredName → List ℕ
label name = dot_text name.module ++ (codes ":" ++ (dot_text name.name ++ (codes "/" ++ decimal name.arity)))

-- `  n0 [label="user:p/0"];`
abbrev pub node_line : ℕ → PredName → List ℕ
node_line node name = codes "  n" ++ (decimal node ++ (codes " [label=\"" ++ (label name ++ codes "\"];\n")))

-- that of the predicate of that number, and nothing where there is none
abbrev pub node_line_of : List PredName → ℕ → List ℕ
node_line_of predicates node = elim (slice_get predicates node) [ Some name ↦ node_line node name | None ↦ [] ]

-- `subgraph cluster_0 {`
abbrev pub cluster_head : ℕ → List ℕ
cluster_head least = codes "subgraph cluster_" ++ (decimal least ++ codes " {\n")

-- the group of these members, as a cluster
abbrev pub cluster : List PredName → List ℕ → List ℕ
cluster predicates members = cluster_head (least_member members) ++ (flat_map (node_line_of predicates) members ++ codes "}\n")

-- a recursive group as a cluster, any other as the node of its one member
abbrev pub group_nodes : List PredName → List ℕ → Level → List ℕ
group_nodes predicates members level = if level.recursive then cluster predicates members else flat_map (node_line_of predicates) members

-- `n0 -> n1;`
abbrev pub edge_line : ℕ → ℕ → List ℕ
edge_line node callee = codes "n" ++ (decimal node ++ (codes " -> n" ++ (decimal callee ++ codes ";\n")))

-- the condensed graph, in which a group is one node

-- the label of the predicate of that number, and nothing where there is none
abbrev pub label_of : List PredName → ℕ → List ℕ
label_of predicates node = elim (slice_get predicates node) [ Some name ↦ label name | None ↦ [] ]

-- labels, one a line
abbrev pub next_label : List PredName → ℕ → List ℕ
next_label predicates node = codes "\\n" ++ label_of predicates node

abbrev pub labels : List PredName → List ℕ → List ℕ
labels predicates [] = []
labels predicates (node ∷ nodes) = label_of predicates node ++ flat_map (next_label predicates) nodes

-- `  g0 [label="user:even/1\nuser:odd/1"];`, the group of these members
abbrev pub group_node : List PredName → List ℕ → List ℕ
group_node predicates members =
    codes "  g" ++ (decimal (least_member members) ++ (codes " [label=\"" ++ (labels predicates members ++ codes "\"];\n")))

-- a group where the node is its least member, and nothing at its other members
abbrev pub node_at_least : List PredName → ℕ → List ℕ → List ℕ
node_at_least predicates node members = if least_member members == node then group_node predicates members else []

-- that of the group at one less than the place; the node of the predicate where it is 0, in no group
abbrev pub condensed_node : List PredName → List (List ℕ) → ℕ → ℕ → List ℕ
condensed_node predicates groups node place =
    if place == 0 then node_line_of predicates node else node_at_least predicates node (group_at groups (place - 1))

-- `n4` for a predicate in no group, `g4` for the group whose least member is 4
abbrev pub node_name : ℕ → ℕ → List ℕ
node_name node place = (if place == 0 then codes "n" else codes "g") ++ decimal node

-- `g0 -> g1;`, with the places of both predicates among the groups
abbrev pub condensed_edge : List ℕ → ℕ → ℕ → List ℕ
condensed_edge places from to =
    node_name from (slice_index places from) ++ (codes " -> " ++ (node_name to (slice_index places to) ++ codes ";\n"))
