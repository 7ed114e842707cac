-- What is right to say of a text of edges.
use Rattle.std.specs.Prelude.{◌≡◌, ℕ, ◌<◌, ◌≤◌, ◌++◌, Bool, true, false, List, [], Option, length}
use Rattle.graph_law.specs.Graph.{Calls}
use Rattle.group_release.specs.declared.level.Level.{Level}
use Rattle.edge_text.specs.declared.limits.TheConstants.{MOST_EDGES, MOST_NODES}
use Rattle.edge_text.specs.EdgeGraph.{AreNames, IsEdgeGraph, Said}
use Rattle.loop_paths.specs.Circuits.{AreCircuits}
use Rattle.component_report.specs.Cycles.{AreCycleLines}
use Rattle.component_report.specs.Report.{IsReport, order_report}
use Rattle.report_lines.specs.Reportable.{AreLeveled}
use Rattle.component_report.specs.declared.form.Form.{Form}
use Rattle.component_answer.specs.declared.answer.Answer.{Answer}
use Rattle.component_answer.specs.declared.answer.Wanted.{Wanted}
use Rattle.component_answer.specs.Inputs.{IsFaultless, IsFirstFaultIn, said_by}
use Rattle.component_answer.specs.Starts.{AreStarts, IsFirstMissing}
use Rattle.component_answer.specs.declared.answer.Answer.TheVariants.{Report, Fault, TooManyEdges, TooManyNodes, NoNode}

-- the lines of the groups are in the order of the groups, or else in that of height and least member
abbrev pub IsReportBy : Bool → Form → List (List ℕ) → List (List ℕ) → List Level → List ℕ → Type 0
IsReportBy true form names groups levels bytes = bytes ≡ order_report form names groups levels
IsReportBy false form names groups levels bytes = IsReport form names groups levels bytes

-- a part of a report that is wanted, or nothing
abbrev pub IsPart : Bool → (List ℕ → Type 0) → List ℕ → Type 0
IsPart true Is bytes = Is bytes
IsPart false Is bytes = bytes ≡ []

-- the lines of the least cycles of groups of a graph
pub record AreLoops (lists : List (List ℕ)) (form : Form) (names groups : List (List ℕ)) (levels : List Level) (bytes : List ℕ) : Type 0 where
  pub cycles : List (Option (List ℕ))
  pub are : AreCircuits (Calls lists) groups cycles
  pub lines : AreCycleLines form names groups levels cycles bytes

-- the bytes are the report on the groups of what some nodes of a graph reach, which come in some legal order, and behind it the cycles if they are wanted
pub record IsReachReport (names lists : List (List ℕ)) (starts : List ℕ) (wanted : Wanted) (bytes : List ℕ) : Type 0 where
  pub groups : List (List ℕ)
  pub levels : List Level
  pub leveled : AreLeveled (Calls lists) starts groups levels
  pub told : List ℕ
  pub report : IsReportBy wanted.order wanted.form names groups levels told
  pub loops : List ℕ
  pub are_loops : IsPart wanted.loops (AreLoops lists wanted.form names groups levels) loops
  pub is : bytes ≡ told ++ loops

-- the bytes are the report on what the roots reach in the graph of what is said, which isn't past the limit of nodes; without roots on all nodes
pub record IsSaidReport (said : Said) (roots : List (List ℕ)) (wanted : Wanted) (bytes : List ℕ) : Type 0 where
  pub names : List (List ℕ)
  pub lists : List (List ℕ)
  pub graph : IsEdgeGraph said names lists
  pub few : length names ≤ MOST_NODES
  pub starts : List ℕ
  pub are_starts : AreStarts names roots starts
  pub report : IsReachReport names lists starts wanted bytes

-- there are too many different names in what is said
pub record HasManyNodes (said : Said) : Type 0 where
  pub names : List (List ℕ)
  pub are : AreNames said names
  pub many : MOST_NODES < length names

-- what is said isn't past that limit, and a root at that place is its first that is no node
pub record HasNoNode (said : Said) (roots : List (List ℕ)) (place : ℕ) : Type 0 where
  pub names : List (List ℕ)
  pub are : AreNames said names
  pub few : length names ≤ MOST_NODES
  pub first : IsFirstMissing names roots place

-- what is right to say of names and calls: a limit that they are past, first that of edges; or the first root that is no node; or else the report
abbrev pub IsSaidAnswer : Said → List (List ℕ) → Wanted → Answer → Type 0
IsSaidAnswer said roots wanted (Fault fault) = ⊥
IsSaidAnswer said roots wanted TooManyEdges = MOST_EDGES < length said.calls
IsSaidAnswer said roots wanted TooManyNodes = (length said.calls ≤ MOST_EDGES) × HasManyNodes said
IsSaidAnswer said roots wanted (NoNode place) = (length said.calls ≤ MOST_EDGES) × HasNoNode said roots place
IsSaidAnswer said roots wanted (Report bytes) = (length said.calls ≤ MOST_EDGES) × IsSaidReport said roots wanted bytes.items

-- the first fault of a text in its form; or if there is none, what is right to say of its names and calls
abbrev pub IsAnswer : List ℕ → List (List ℕ) → Wanted → Answer → Type 0
IsAnswer text roots wanted (Fault fault) = IsFirstFaultIn wanted.from_json text fault
IsAnswer text roots wanted TooManyEdges = IsFaultless wanted.from_json text × IsSaidAnswer (said_by wanted.from_json text) roots wanted TooManyEdges
IsAnswer text roots wanted TooManyNodes = IsFaultless wanted.from_json text × IsSaidAnswer (said_by wanted.from_json text) roots wanted TooManyNodes
IsAnswer text roots wanted (NoNode place) = IsFaultless wanted.from_json text × IsSaidAnswer (said_by wanted.from_json text) roots wanted (NoNode place)
IsAnswer text roots wanted (Report bytes) = IsFaultless wanted.from_json text × IsSaidAnswer (said_by wanted.from_json text) roots wanted (Report bytes)
