use Rattle.import_rules.proofs.Meant.{one_meaning}
use Rattle.import_rules.proofs.laws.one_meaning.Goals as goal

pub returns : goal.returns
returns c = one_meaning
