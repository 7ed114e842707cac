use Rattle.graph_law.proofs.graph.GraphOpener.count.Goals as goal

pub returns-clause-closed : goal.returns-clause-closed
returns-clause-closed c = rw (← c.self.view_is) c.self.invariant.closed
