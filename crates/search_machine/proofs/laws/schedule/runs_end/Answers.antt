use Rattle.search_machine.proofs.Falling.{event_falls, opening_is, run_falls}
use Rattle.search_machine.proofs.laws.schedule.runs_end.Goals as goal

pub returns-clause-falls : goal.returns-clause-falls
returns-clause-falls c = λ lists roots place s t good event. event_falls good event

pub returns-clause-turns : goal.returns-clause-turns
returns-clause-turns c = λ lists roots x s states end good run. run_falls lists roots states x s end good run

pub returns-clause-opening : goal.returns-clause-opening
returns-clause-opening c = λ lists roots places. opening_is lists roots places
