use Rattle.call_told.specs.Wanted.{AreAsked}
use Rattle.calls_tool.specs.Calls.{calls_tool}
use Rattle.laws.proofs.Answers as of_tool
use Rattle.laws.proofs.LoadedEnds.{ProgramLaws}
use Rattle.laws.proofs.ToldEnds.{can_tell}
use Rattle.laws.proofs.told.some_told_answer.Goals as goal

pub returns : goal.returns
returns c = λ words files utf8.
    let laws : ProgramLaws = record {
      programs = c.program_or_faults.ensures;
      goals = c.goal_faults_exist.ensures;
      roots = c.roots_exist.ensures;
      below = c.roots_below.ensures;
    } in
    of_tool.some_answer calls_tool (AreAsked words) files laws (λ asked lawful. can_tell laws c.told_exists.ensures asked) c.load_or_faults.ensures
    (c.asked_or_nothing.ensures words utf8)
