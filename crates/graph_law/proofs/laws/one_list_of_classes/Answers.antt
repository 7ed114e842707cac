use Rattle.graph_law.proofs.Unique.{classes_unique}
use Rattle.graph_law.proofs.laws.one_list_of_classes.Goals as goal

pub returns : goal.returns
returns c = λ lists starts classes others are also. classes_unique are also
