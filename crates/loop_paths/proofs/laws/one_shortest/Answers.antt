use Rattle.graph_law.specs.Graph.{Calls}
use Rattle.loop_paths.proofs.OneLeast as one
use Rattle.loop_paths.proofs.laws.one_shortest.Goals as goal

pub returns-clause-path : goal.returns-clause-path
returns-clause-path c = λ lists p q found other. one.one_shortest (Calls lists) p q found other

pub returns-clause-circuits : goal.returns-clause-circuits
returns-clause-circuits c = λ lists groups circuits others. one.one_list_of_circuits (Calls lists) groups circuits others
