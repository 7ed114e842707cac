use Rattle.search_machine.proofs.Runs.{run_keeps}
use Rattle.search_machine.proofs.Starting.{starts_good}
use Rattle.search_machine.proofs.laws.runs_keep.Goals as goal

pub returns-clause-opening : goal.returns-clause-opening
returns-clause-opening c = starts_good

pub returns-clause-runs : goal.returns-clause-runs
returns-clause-runs c = λ lists roots x s states end good run. run_keeps lists roots states x s end good run
