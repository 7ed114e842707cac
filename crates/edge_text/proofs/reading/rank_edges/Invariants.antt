use Rattle.edge_text.proofs.RankedEdges.{AreRankedUpTo}
use Rattle.edge_text.proofs.reading.rank_edges.Given as goal

-- the edges so far are between ranks
abbrev pub invariant-loop-edge : goal.invariant-loop-edge
invariant-loop-edge l = AreRankedUpTo l.ranks l.fn.edges l.edge-index l.edges
