-- The groups that roots reach, their levels, and the bytes of their report.
use Rattle.std.proofs.Common.{ℕ, ◌<◌, ◌++◌, Bool, true, false, List, Option, Some, None, All, length, refl}
use Rattle.std.specs.Option.{IfSome}
use Rattle.graph_law.specs.Classes.{HasMember}
use Rattle.graph_law.specs.Graph.{Calls, IsClosed}
use Rattle.graph_law.specs.LegalOrder.{IsComplete, IsLegalOrder}
use Rattle.graph_law.specs.Reach.{IsReached}
use Rattle.group_release.specs.Level.{AreLevels}
use Rattle.group_release.specs.declared.level.Level.{Level}
use Rattle.search_machine.specs.Schedule.{IsScheduled}
use Rattle.import_rules.specs.Program.{Seen}
use Rattle.call_edges.specs.Successors.{successor_lists}
use Rattle.call_edges.proofs.SuccessorLemmas.{lists_closed}
use Rattle.group_words.specs.Settings.{Settings}
use Rattle.loop_report.specs.Report.{head_line}
use Rattle.report_lines.specs.Reportable.{AreGroups, AreLeveled, AreReportable}
use Rattle.group_tool.specs.Driving.{AreInScheduleOrder}
use Rattle.tool_run.specs.Roots.{AreRootNumbers, HasRoots, asked_names}
use Rattle.group_tool.specs.Groups.{IsOutput, ReportsProgram}
use Rattle.group_tool.proofs.GroupLemmas.{roots_listed, reportable, reports}
use Rattle.laws.proofs.PartBytes.{PartLaws, some_parts}
use Rattle.laws.specs.AnswerLayers.{ReportsExist, OrderReportsExist}

-- what there is for each graph, as the laws say it

abbrev AreRooted : List (List ℕ) → List ℕ → Type 0
AreRooted lists roots = All (λ root. root < length lists) roots

pub record GraphLaws : Type 0 where
  pub ends : (lists : List (List ℕ)) (roots : List ℕ) (searches seed : ℕ) → IsClosed lists → AreRooted lists roots
      → (groups : List (List ℕ)) × IsScheduled lists roots searches seed groups
  pub legal : (lists : List (List ℕ)) (roots : List ℕ) (searches seed : ℕ) (groups : List (List ℕ)) → IsClosed lists → AreRooted lists roots
      → IsScheduled lists roots searches seed groups → IsLegalOrder (Calls lists) groups
  pub complete : (lists : List (List ℕ)) (roots : List ℕ) (searches seed : ℕ) (groups : List (List ℕ)) → IsClosed lists → AreRooted lists roots → 0 < searches
      → IsScheduled lists roots searches seed groups → IsComplete roots groups
  pub reached : (lists : List (List ℕ)) (roots : List ℕ) (searches seed : ℕ) (groups : List (List ℕ)) → IsClosed lists → AreRooted lists roots
      → IsScheduled lists roots searches seed groups → (v : ℕ) → HasMember groups v → IsReached (Calls lists) roots v
  pub ordered : (lists : List (List ℕ)) (roots : List ℕ) → IsClosed lists → AreRooted lists roots
      → (groups : List (List ℕ)) × (IsLegalOrder (Calls lists) groups × IsComplete roots groups × ((v : ℕ) → HasMember groups v → IsReached (Calls lists) roots v))
  pub leveled : (lists : List (List ℕ)) (groups : List (List ℕ)) → IsLegalOrder (Calls lists) groups
      → (levels : List Level) × AreLevels (Calls lists) groups levels

-- the groups of lists of successors, in the order that is wanted
record HasGroups (searches : Option (ℕ × ℕ)) (lists : List (List ℕ)) (roots : List ℕ) : Type 0 where
  pub groups : List (List ℕ)
  pub are : AreGroups (Calls lists) roots groups
  pub order : AreInScheduleOrder searches lists roots groups

-- at least one search, where they are wanted
abbrev pub SomeSearch : Option (ℕ × ℕ) → Type 0
SomeSearch searches = IfSome searches (λ (both : ℕ × ℕ). 0 < both.0)

module _ (laws : GraphLaws) where
  some_groups : (searches : Option (ℕ × ℕ)) (lists : List (List ℕ)) (roots : List ℕ) → SomeSearch searches → IsClosed lists → AreRooted lists roots → HasGroups searches lists roots
  some_groups None lists roots some closed rooted =
      let groups = laws.ordered lists roots closed rooted in
      record { groups = groups.0; are = record { legal = groups.1.0; complete = groups.1.1; reached = groups.1.2 }; order = tt }
  some_groups (Some both) lists roots some closed rooted =
      let groups = laws.ends lists roots both.0 both.1 closed rooted in
      record {
        groups = groups.0;
        are = record {
          legal = laws.legal lists roots both.0 both.1 groups.0 closed rooted groups.1;
          complete = laws.complete lists roots both.0 both.1 groups.0 closed rooted some groups.1;
          reached = laws.reached lists roots both.0 both.1 groups.0 closed rooted groups.1;
        };
        order = groups.1;
      }

  module _ (reported : ReportsExist) (in_order : OrderReportsExist) (parted : PartLaws) where
    some_output : (make : Option ℕ) (order unreached : Bool) (seen : Seen) (groups : List (List ℕ)) (levels : List Level) → AreReportable (length seen.predicates) groups levels
        → (bytes : List ℕ) × IsOutput make order unreached seen groups levels bytes
    some_output (Some count) order unreached seen groups levels can = (head_line groups levels, refl)
    some_output None true unreached seen groups levels can = in_order seen.predicates seen.loaded.files groups levels unreached
    some_output None false unreached seen groups levels can = reported seen.predicates seen.loaded.files groups levels unreached can

    -- what the roots reach has a report
    pub some_report : (settings : Settings) (seen : Seen) (roots : List ℕ) → SomeSearch settings.searches → AreRootNumbers settings.roots seen roots
        → HasRoots (asked_names settings.path settings.roots) seen → All (λ q. q < length seen.predicates) roots → (bytes : List ℕ) × ReportsProgram settings seen bytes
    some_report settings seen roots some are has below =
        let lists = successor_lists seen in
        let closed = lists_closed seen in
        let found : HasGroups settings.searches lists roots = some_groups settings.searches lists roots some closed (roots_listed seen roots below) in
        let levels = laws.leveled lists found.groups found.are.legal in
        let leveled : AreLeveled (Calls lists) roots found.groups levels.0 = record { are = found.are; leveled = levels.1 } in
        let output =
        some_output settings.make settings.order settings.unreached seen found.groups levels.0 (reportable seen roots found.groups levels.0 below leveled) in
        let parts = some_parts parted seen roots found.groups levels.0 below leveled settings has in
        (output.0 ++ parts.0, reports settings seen roots found.groups levels.0 output.0 parts.0 (output.0 ++ parts.0) are leveled found.order output.1 parts.1 refl)
