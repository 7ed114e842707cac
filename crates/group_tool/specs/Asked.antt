-- What is asked of a program, and the groups that it has.
use Rattle.std.specs.Prelude.{◌≡◌, ◌<◌, [], All, length}
use Rattle.call_edges.specs.Successors.{successor_lists}
use Rattle.call_edges.specs.GoalFaults.{AreGoalFaults}
use Rattle.graph_law.specs.Graph.{Calls, lists_of}
use Rattle.import_rules.specs.Program.{Seen}
use Rattle.group_words.specs.Settings.{Settings}
use Rattle.report_lines.specs.Reportable.{AreLeveled}
use Rattle.tool_run.specs.Roots.{AreEnds, AreRootNumbers, HasRoots, asked_names}
use Rattle.group_tool.specs.Driving.{AreInScheduleOrder}
use Rattle.group_tool.specs.declared.asked.Asked.{Asked}
use Rattle.group_tool.specs.declared.asked.Grouped.{Grouped}

-- these are the calls of the program, each of whose goals is callable, the numbers of all roots, and those of the ends of the path
pub record IsAskedOf (settings : Settings) (seen : Seen) (asked : Asked) : Type 0 where
  pub calls : asked.calls ≡ seen
  pub callable : AreGoalFaults seen []
  pub roots : AreRootNumbers settings.roots seen asked.roots.items
  pub below : All (λ q. q < length seen.predicates) asked.roots.items
  pub ends : AreEnds settings.path seen asked.ends
  pub rooted : HasRoots (asked_names settings.path settings.roots) seen

-- these are the groups that the roots reach, in the order that is wanted, with their levels
pub record IsGroupedOf (settings : Settings) (seen : Seen) (grouped : Grouped) : Type 0 where
  pub asked : IsAskedOf settings seen grouped.asked.now
  pub leveled : AreLeveled (Calls (successor_lists seen)) grouped.asked.now.roots.items (lists_of grouped.groups.now) grouped.levels.now
  pub order : AreInScheduleOrder settings.searches (successor_lists seen) grouped.asked.now.roots.items (lists_of grouped.groups.now)
