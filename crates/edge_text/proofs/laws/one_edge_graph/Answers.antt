use Rattle.edge_text.proofs.OneGraph.{one_graph}
use Rattle.edge_text.proofs.laws.one_edge_graph.Goals as goal

pub returns : goal.returns
returns c = one_graph
