use Rattle.edge_text.proofs.SomeGraph.{some_graph}
use Rattle.edge_text.proofs.laws.some_edge_graph.Goals as goal

pub returns : goal.returns
returns c = some_graph
