use Rattle.search_machine.proofs.Acting.{failed_machine}
use Rattle.search_machine.proofs.machine.Machine.fail.Goals as goal

pub invariant_of-self : goal.invariant_of-self
invariant_of-self c = failed_machine c.self.inside c.fail.new.self c.self.invariant c.fail.ensures
