-- What is told of a program.
use Rattle.std.specs.Prelude.{ℕ, ◌≡◌, ◌<◌, ◌==◌, ◌||◌, List, [], ◌++◌, Bool, true, false, not, All, length, filter, zip, flat_map, slice_index}
use Rattle.std.specs.Prelude.{slice_index_or, if◌then◌else◌, is_some, codes, String}
use Rattle.std.specs.List.{range_with_len}
use Rattle.std.specs.String.{string_bytes}
use Rattle.std.specs.declared.alloc.Global.{Global}
use Rattle.prolog_tokens.specs.declared.token.Place.{Place}
use Rattle.graph_law.specs.Graph.{Calls as ListCalls, lists_of}
use Rattle.group_release.specs.declared.level.Level.{Level}
use Rattle.import_rules.specs.Program.{Seen}
use Rattle.call_edges.specs.CallPlaces.{CallAt}
use Rattle.call_edges.specs.PlacedSeen.{see_calls}
use Rattle.call_edges.specs.Successors.{successor_lists}
use Rattle.call_table.specs.Directives.{ArePlacedDirectives}
use Rattle.call_table.specs.Marks.{AreEach, AreMarked, ProgramMarks, marks_at, see_marks}
use Rattle.call_table.specs.Memberships.{AreGroupsOf}
use Rattle.call_table.specs.Reached.{AreNodes}
use Rattle.report_lines.specs.Reportable.{AreLeveled}
use Rattle.call_table.specs.Table.{IsTable}
use Rattle.call_table.specs.declared.table.CallTable.{CallTable}
use Rattle.call_writer.specs.Dot.{edge_line, group_nodes, node_line_of}
use Rattle.call_writer.specs.Lines.{call_line_if, clause_line, directive_line_if, group_line_at, predicate_line_of}
use Rattle.call_told.specs.Condensed.{TellsCondensed}
use Rattle.call_told.specs.Wanted.{Asked}
use Rattle.call_told.specs.declared.told.Told.{Told}
use Rattle.call_told.specs.declared.node_lines.NodeLines.{NodeLines}
use Rattle.call_told.specs.declared.node_lines.NodeLines.TheVariants.{Predicates, Groups}
use Rattle.call_told.specs.declared.wanted.Form.{Form}
use Rattle.call_told.specs.declared.wanted.Form.TheVariants.{Lines, Undefined, Dot, Condensed}

-- predicates below the count, groups of such predicates with a level each, which group each predicate is in, and what is marked at each
pub record AreTold (count : ℕ) (nodes : List ℕ) (groups : List (List ℕ)) (levels : List Level) (places : List ℕ) (marks : ProgramMarks) : Type 0 where
  pub nodes_below : All (λ p. p < count) nodes
  pub levels_each : length levels ≡ length groups
  pub groups_are : AreNodes count groups
  pub placed : AreGroupsOf count groups places
  pub marked : AreEach count marks

-- the predicates, the groups, the places and the marks of these are those of one program
abbrev pub IsTold : Told → Type 0
IsTold told =
    AreTold (length told.program.now.predicates) told.nodes.items (lists_of told.groups.items) told.levels.items told.places.items (see_marks told.marks)

-- the predicates that are told, ascending: all, or those whose place among the groups is not 0, which are in a group
abbrev pub told_nodes : ℕ → List ℕ → Bool → List ℕ
told_nodes count places all = filter (λ p. all || not (slice_index places p == 0)) (range_with_len 0 count)

-- the groups are the classes of what the roots reach, with their levels; each predicate has the place of its group, and these are told
pub record IsReach (asked : Asked) (seen : Seen) (roots : List ℕ) (groups : List (List ℕ)) (levels : List Level) (places nodes : List ℕ) : Type 0 where
  pub leveled : AreLeveled (ListCalls (successor_lists seen)) roots groups levels
  pub placed : AreGroupsOf (length seen.predicates) groups places
  pub nodes_are : nodes ≡ told_nodes (length seen.predicates) places asked.settings.unreached

abbrev pub ToldIs : Asked → List ℕ → Told → Type 0
ToldIs asked roots told = IsReach asked told.program.now roots (lists_of told.groups.items) told.levels.items told.places.items told.nodes.items

-- at its predicates is marked what is so of the program, where reach begins at these roots, which a list names or doesn't
abbrev pub MarkedIs : Asked → List ℕ → Told → Type 0
MarkedIs asked roots told = AreMarked (is_some asked.settings.roots) told.program.now roots (see_marks told.marks)

-- the bytes of texts, one behind the other
abbrev pub joined : List (String Global) → List ℕ
joined texts = flat_map (λ (text : String Global). string_bytes text) texts

-- the line of a predicate, or that of the group of which it is the least member, where it is that of one
abbrev pub node_line : NodeLines → Seen → List (List ℕ) → List Level → List ℕ → ProgramMarks → ℕ → List ℕ
node_line Predicates seen groups levels places marks p = predicate_line_of seen groups levels p (slice_index places p) (marks_at marks p)
node_line Groups seen groups levels places marks p = group_line_at groups levels p (slice_index places p)

abbrev pub node_lines : NodeLines → Seen → List (List ℕ) → List Level → List ℕ → ProgramMarks → List ℕ → List ℕ
node_lines lines seen groups levels places marks nodes = flat_map (node_line lines seen groups levels places marks) nodes

-- the lines of the predicates, and behind them those of their groups, by least member
abbrev pub told_lines : Seen → List (List ℕ) → List Level → List ℕ → ProgramMarks → List ℕ → List ℕ
told_lines seen groups levels places marks nodes =
    node_lines Predicates seen groups levels places marks nodes ++ node_lines Groups seen groups levels places marks nodes

-- the lines of the clauses
abbrev pub clause_lines : Seen → CallTable → List ℕ
clause_lines seen table = flat_map (λ pair. clause_line seen pair.0 pair.1) (zip table.clauses.items table.clause_extents.items)

-- the lines of the calls, or of those alone whose names mean no predicate
abbrev pub call_lines : Bool → Seen → CallTable → List ℕ
call_lines undefined seen table =
    flat_map (λ pair. call_line_if undefined seen pair.0 pair.1) (zip (see_calls table.calls.items) table.call_places.items)

-- all lines of a table
abbrev pub all_lines : Seen → List (List ℕ) → List Level → List ℕ → ProgramMarks → List ℕ → CallTable → List ℕ
all_lines seen groups levels places marks nodes table =
    told_lines seen groups levels places marks nodes ++ (clause_lines seen table ++ call_lines false seen table)

-- the line of a predicate that is in no group
abbrev pub ungrouped_line : Seen → List ℕ → ℕ → List ℕ
ungrouped_line seen places p = if slice_index places p == 0 then node_line_of seen.predicates p else []

-- the nodes of the groups, of the recursive ones in clusters
abbrev pub drawn_group : Seen → List ℕ × Level → List ℕ
drawn_group seen group = group_nodes seen.predicates group.0 group.1

abbrev pub grouped_nodes : Seen → List (List ℕ) → List Level → List ℕ
grouped_nodes seen groups levels = flat_map (drawn_group seen) (zip groups levels)

-- the graph: the groups, the predicates that are in none, and what calls what
abbrev pub dot_graph : Seen → List (List ℕ) → List Level → List ℕ → List ℕ → List ℕ
dot_graph seen groups levels places nodes =
    codes "digraph calls {\n"
    ++ (grouped_nodes seen groups levels
    ++ (flat_map (ungrouped_line seen places) nodes
    ++ (flat_map (λ p. flat_map (edge_line p) (slice_index_or (successor_lists seen) p [])) nodes ++ codes "}\n")))

-- the bytes are told of the table of these predicates and groups
pub record TellsTable (seen : Seen) (groups : List (List ℕ)) (nodes : List ℕ) (text : CallTable → List ℕ) (bytes : List ℕ) : Type 0 where
  pub table : CallTable
  pub is_table : IsTable seen nodes groups table
  pub is : bytes ≡ text table

-- the lines of calls of directives, or of those alone whose names mean no predicate
abbrev pub directive_lines : Bool → Seen → List CallAt → List Place → List ℕ
directive_lines undefined seen calls places = flat_map (λ pair. directive_line_if undefined seen pair.0 pair.1) (zip calls places)

-- the bytes are those of all calls of directives
pub record TellsDirectives (undefined : Bool) (seen : Seen) (bytes : List ℕ) : Type 0 where
  pub calls : List CallAt
  pub places : List Place
  pub are : ArePlacedDirectives seen calls places
  pub is : bytes ≡ directive_lines undefined seen calls places

-- the bytes are told of the table, and behind them those of directives are told
pub record TellsBoth (Table Directives : List ℕ → Type 0) (bytes : List ℕ) : Type 0 where
  pub front : List ℕ
  pub rest : List ℕ
  pub table : Table front
  pub directives : Directives rest
  pub is : bytes ≡ front ++ rest

-- the lines of predicates, groups, clauses and calls, also of directives; those of undefined calls alone; the graph; or the condensed one
abbrev pub TellsForm : Form → Seen → List (List ℕ) → List Level → List ℕ → ProgramMarks → List ℕ → List ℕ → Type 0
TellsForm Lines seen groups levels places marks nodes bytes =
    TellsBoth (TellsTable seen groups nodes (λ table. all_lines seen groups levels places marks nodes table)) (TellsDirectives false seen) bytes
TellsForm Undefined seen groups levels places marks nodes bytes =
    TellsBoth (TellsTable seen groups nodes (call_lines true seen)) (TellsDirectives true seen) bytes
TellsForm Dot seen groups levels places marks nodes bytes = bytes ≡ dot_graph seen groups levels places nodes
TellsForm Condensed seen groups levels places marks nodes bytes = TellsCondensed seen groups places nodes bytes

-- the bytes tell of the program what is asked for, where reach begins at these roots
pub record TellsFrom (asked : Asked) (seen : Seen) (roots bytes : List ℕ) : Type 0 where
  pub groups : List (List ℕ)
  pub levels : List Level
  pub places : List ℕ
  pub marks : ProgramMarks
  pub nodes : List ℕ
  pub reach : IsReach asked seen roots groups levels places nodes
  pub marked : AreMarked (is_some asked.settings.roots) seen roots marks
  pub tells : TellsForm asked.form seen groups levels places marks nodes bytes
