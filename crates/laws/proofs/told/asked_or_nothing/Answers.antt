use Rattle.laws.proofs.AskedWords.{asked_found}
use Rattle.laws.proofs.told.asked_or_nothing.Goals as goal

pub returns : goal.returns
returns c = asked_found c.lawful_or_not.ensures
