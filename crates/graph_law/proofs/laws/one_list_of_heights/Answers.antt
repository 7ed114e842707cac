use Rattle.graph_law.proofs.Unique.{heights_unique}
use Rattle.graph_law.proofs.laws.one_list_of_heights.Goals as goal

pub returns : goal.returns
returns c = λ lists groups heights others are also. heights_unique are also
