use Rattle.laws.proofs.FaultLists.{goal_faults_exist}
use Rattle.laws.proofs.program.goal_faults_exist.Goals as goal

pub returns : goal.returns
returns c = goal_faults_exist
