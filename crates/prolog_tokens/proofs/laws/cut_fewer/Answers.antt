use Rattle.prolog_tokens.proofs.Lookups.{cut_fewer}
use Rattle.prolog_tokens.proofs.laws.cut_fewer.Goals as goal

pub returns : goal.returns
returns c = cut_fewer
