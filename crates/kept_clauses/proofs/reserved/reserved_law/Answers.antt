use Rattle.std.proofs.Common.{not, ap}
use Rattle.kept_clauses.proofs.NameNumbers.{reserved_is}
use Rattle.kept_clauses.proofs.reserved.reserved_law.Goals as goal

pub returns : goal.returns
returns c = λ number. ap not (reserved_is c.args.names.now c.known_law.ensures.named c.names_law.ensures.only number)
