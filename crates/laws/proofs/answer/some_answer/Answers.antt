use Rattle.laws.proofs.Reports.{line_order_of}
use Rattle.laws.proofs.PartBytes.{PartLaws}
use Rattle.laws.proofs.ReportBytes.{GraphLaws, SomeSearch}
use Rattle.group_words.specs.Settings.{Settings, AreLawful}
use Rattle.group_tool.specs.Groups.{groups_tool}
use Rattle.laws.proofs.Answers as of_tool
use Rattle.laws.proofs.GroupEnds.{can_report, some_search}
use Rattle.laws.proofs.LoadedEnds.{CanTell, ProgramLaws}
use Rattle.laws.proofs.answer.some_answer.Goals as goal

pub returns : goal.returns
returns c =
    let graphs : GraphLaws = record {
      ends = c.schedule_ends.ensures;
      legal = c.schedules_answer.ensures.legal;
      complete = c.schedules_answer.ensures.complete;
      reached = c.schedules_answer.ensures.reached;
      ordered = c.order_exists.ensures;
      leveled = c.levels_exist.ensures;
    } in
    let parted : PartLaws = record {
      shortest = c.some_shortest.ensures.path;
      circuits = c.some_shortest.ensures.circuits;
      ordered = c.order_exists.ensures;
      rows = line_order_of;
    } in
    let laws : ProgramLaws = record {
      programs = c.program_or_faults.ensures;
      goals = c.goal_faults_exist.ensures;
      roots = c.roots_exist.ensures;
      below = c.roots_below.ensures;
    } in
    let tells : (settings : Settings) → SomeSearch settings.searches → CanTell groups_tool settings =
    can_report laws graphs c.reports_exist.ensures.lines c.reports_exist.ensures.order parted in
    λ words files utf8.
    of_tool.some_answer groups_tool (AreLawful words) files laws
    (λ settings lawful. tells settings (some_search settings.searches settings.jobs (c.settings_within.ensures words settings lawful).searches)) c.load_or_faults.ensures
    (c.lawful_or_not.ensures words utf8)
