use Rattle.laws.proofs.Heights.{levels_of}
use Rattle.laws.proofs.schedule.levels_exist.Goals as goal

pub returns : goal.returns
returns c = λ lists groups legal. levels_of lists groups legal
