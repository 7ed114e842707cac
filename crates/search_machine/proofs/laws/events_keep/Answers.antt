use Rattle.search_machine.proofs.Claiming.{asks_keep, opens_keep}
use Rattle.search_machine.proofs.Runs.{event_keeps, plain_keeps}
use Rattle.search_machine.proofs.laws.events_keep.Goals as goal

pub returns-clause-plain : goal.returns-clause-plain
returns-clause-plain c = λ lists roots place s t good event. plain_keeps good event

pub returns-clause-asks : goal.returns-clause-asks
returns-clause-asks c = λ lists roots place v s t good asks. asks_keep good asks

pub returns-clause-opens : goal.returns-clause-opens
returns-clause-opens c = λ lists roots failed place v s t good opens. opens_keep good opens

pub returns-clause-events : goal.returns-clause-events
returns-clause-events c = λ lists roots place s t good event. event_keeps good event
