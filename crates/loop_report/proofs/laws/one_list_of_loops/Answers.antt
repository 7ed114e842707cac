use Rattle.loop_report.proofs.OneLoops.{one_list_of_loops}
use Rattle.loop_report.proofs.laws.one_list_of_loops.Goals as goal

pub returns : goal.returns
returns c = one_list_of_loops
