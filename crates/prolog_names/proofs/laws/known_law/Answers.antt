use Rattle.prolog_names.proofs.OneNumber.{known_at, others_apart}
use Rattle.prolog_names.proofs.laws.known_law.Goals as goal

pub returns-clause-named : goal.returns-clause-named
returns-clause-named c = known_at c.args.names.now c.names_law.ensures.opened

pub returns-clause-others : goal.returns-clause-others
returns-clause-others c = others_apart c.args.names.now c.names_law.ensures.opened c.names_law.ensures.only
