use Rattle.std.proofs.Common.{◌≡◌, ◌*◌, ◌≤◌, List, All, length}
use Rattle.prolog_terms.specs.Weight.{weight}
use Rattle.kept_clauses.specs.Plain.{body_tree}
use Rattle.kept_clauses.specs.Views.{see_goals, IsSoundGoal}
use Rattle.call_edges.specs.Calls.{IsAmong}
use Rattle.call_edges.specs.Goals.{Met, Adds}
use Rattle.call_edges.specs.KeptGoals.{IsMetInGoal}
use Rattle.call_edges.specs.Meant.{AreMeant}
use Rattle.call_edges.specs.ProgramRows.{rows_of}
use Rattle.call_edges.specs.Seen.{see_mets}
use Rattle.call_edges.proofs.walk_body.walk_goals_home.Given as goal

-- with what is met in the goals that are left, all is met; they are sound if these are, have the same names and weigh no more
abbrev pub invariant-loop-goal : goal.invariant-loop-goal
invariant-loop-goal l = record {
  adds : (new : List Met) → Adds (IsAmong (IsMetInGoal (rows_of l.home.program.now) l.home.facts.now.module) (see_goals l.left)) (see_mets l.met.items) new
      → Adds (IsAmong (IsMetInGoal (rows_of l.home.program.now) l.home.facts.now.module) (see_goals l.fn.goals)) (see_mets l.fn.met.items) new;
  sound : All IsSoundGoal (see_goals l.left) → All IsSoundGoal (see_goals l.fn.goals);
  names : l.left.names.now ≡ l.fn.goals.names.now;
  light : 10 * weight (body_tree (see_goals l.left)) ≤ 4294967295;
  meant : AreMeant l.home.program.now l.fn.met.items → AreMeant l.home.program.now l.met.items;
}

abbrev pub decreases-loop-goal : goal.decreases-loop-goal
decreases-loop-goal l = length (see_goals l.left)
