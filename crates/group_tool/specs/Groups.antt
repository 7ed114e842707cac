-- What `groups` answers.
use Rattle.std.specs.Prelude.{◌≡◌, ℕ, ◌++◌, Option, Some, None, Bool, true, false, List, codes}
use Rattle.group_release.specs.declared.level.Level.{Level}
use Rattle.import_rules.specs.Program.{Seen}
use Rattle.call_edges.specs.Calls.{NodeCalls}
use Rattle.call_edges.specs.Successors.{successor_lists}
use Rattle.group_words.specs.Settings.{Settings}
use Rattle.loop_report.specs.Report.{IsReport, IsOrderReport, head_line}
use Rattle.report_lines.specs.Reportable.{AreLeveled}
use Rattle.tool_run.specs.Roots.{AreRootNumbers, asked_names}
use Rattle.tool_run.specs.Tool.{Tool}
use Rattle.group_tool.specs.Driving.{AreInScheduleOrder}
use Rattle.group_tool.specs.Parts.{AreParts}

-- the bytes are the report of the groups: of a made program the first line; else with the lines of the groups in order of height, or in the order of the groups
-- where that is wanted
abbrev pub IsOutput : Option ℕ → Bool → Bool → Seen → List (List ℕ) → List Level → List ℕ → Type 0
IsOutput (Some count) order unreached seen groups levels bytes = bytes ≡ head_line groups levels
IsOutput None true unreached seen groups levels bytes = IsOrderReport seen.predicates seen.loaded.files groups levels unreached bytes
IsOutput None false unreached seen groups levels bytes = IsReport seen.predicates seen.loaded.files groups levels unreached bytes

-- the bytes are the report of the groups that the roots reach, in some legal order, or in that of the schedule where one is wanted, and the parts behind it
pub record ReportsProgram (settings : Settings) (seen : Seen) (bytes : List ℕ) : Type 0 where
  pub roots : List ℕ
  pub are_roots : AreRootNumbers settings.roots seen roots
  pub groups : List (List ℕ)
  pub levels : List Level
  pub leveled : AreLeveled (NodeCalls seen) roots groups levels
  pub order : AreInScheduleOrder settings.searches (successor_lists seen) roots groups
  pub report : List ℕ
  pub output : IsOutput settings.make settings.order settings.unreached seen groups levels report
  pub parts : List ℕ
  pub are_parts : AreParts settings seen groups levels parts
  pub is : bytes ≡ report ++ parts

abbrev pub usage_line : List ℕ
usage_line =
    codes "usage: groups [--jobs N | --searches K --seed S] [--roots LIST] [--order [--stream]] [--unreached] [--effects] [--loops] [--path LIST] FILE... | groups --make N [--jobs N | --searches K --seed S]\n"

-- the program: what its words set, and what it tells of the files
abbrev pub groups_tool : Tool Settings
groups_tool = record {
  name = codes "groups";
  usage = usage_line;
  make = λ settings. settings.make;
  files = λ settings. settings.files;
  names = λ settings. asked_names settings.path settings.roots;
  tells = ReportsProgram;
}
