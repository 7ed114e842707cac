use Rattle.laws.proofs.RootLists.{roots_exist}
use Rattle.laws.proofs.program.roots_exist.Goals as goal

pub returns : goal.returns
returns c = roots_exist
