use Rattle.prolog_tokens.proofs.Between.{one_cut}
use Rattle.prolog_tokens.proofs.laws.one_cut.Goals as goal

pub returns : goal.returns
returns c = one_cut
