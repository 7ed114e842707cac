use Rattle.import_rules.proofs.OneProgram.{one_numbering}
use Rattle.import_rules.proofs.laws.one_numbering.Goals as goal

pub returns : goal.returns
returns c = one_numbering
