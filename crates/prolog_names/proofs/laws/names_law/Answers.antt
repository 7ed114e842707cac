use Rattle.std.proofs.Common.{subst}
use Rattle.prolog_names.specs.Names.{AreDistinct}
use Rattle.prolog_names.proofs.OneNumber.{one_number}
use Rattle.prolog_names.proofs.laws.names_law.Goals as goal

pub returns-clause-only : goal.returns-clause-only
returns-clause-only c = one_number c.args.names.now (subst AreDistinct c.names.view_is c.len-count.ensures.distinct)
