use Rattle.search_machine.proofs.Runs.{no_rings}
use Rattle.search_machine.proofs.laws.good_states.Goals as goal

pub returns-clause-legal : goal.returns-clause-legal
returns-clause-legal c = λ lists roots failed s good. good.book.legal

pub returns-clause-reached : goal.returns-clause-reached
returns-clause-reached c = λ lists roots failed s good. good.book.reached

pub returns-clause-no_ring : goal.returns-clause-no_ring
returns-clause-no_ring c = λ lists roots failed s good. no_rings good
