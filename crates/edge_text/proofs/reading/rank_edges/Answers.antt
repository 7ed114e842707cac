use Rattle.std.proofs.Common.{length, get_or, sym, subst, arith}
use Rattle.flat_graph.specs.declared.edge.Edge.{Edge}
use Rattle.flat_graph.specs.Edges.{IsBelow}
use Rattle.edge_text.proofs.RankedEdges.{all_ranked, none_ranked, one_ranked}
use Rattle.edge_text.proofs.reading.rank_edges.Goals as goal

pub loop-edge-init : goal.loop-edge-init
loop-edge-init c = none_ranked c.args.ranks.now c.args.edges.now

pub bounds-ranks-edge : goal.bounds-ranks-edge
bounds-ranks-edge c =
    let none : Edge = record { from = 0; to = 0 } in
    let i = c.loop-edge.edge-index in
    let is : IsBelow (length c.args.ranks.now) (get_or c.loop-edge.edges i none) =
    subst (IsBelow (length c.args.ranks.now)) (sym (c.loop-edge.invariant.rest i none (omega arith))) (c.requires i none c.loop-edge-test.true) in
    is.from

pub bounds-ranks-edge-in-loop-edge : goal.bounds-ranks-edge-in-loop-edge
bounds-ranks-edge-in-loop-edge c =
    let none : Edge = record { from = 0; to = 0 } in
    let i = c.loop-edge.edge-index in
    let is : IsBelow (length c.args.ranks.now) (get_or c.loop-edge.edges i none) =
    subst (IsBelow (length c.args.ranks.now)) (sym (c.loop-edge.invariant.rest i none (omega arith))) (c.requires i none c.loop-edge-test.true) in
    is.to

pub loop-edge-preserved : goal.loop-edge-preserved
loop-edge-preserved c =
    one_ranked c.args.ranks.now c.args.edges.now c.loop-edge.edge-index c.loop-edge.edges (record { from = 0; to = 0 }) c.loop-edge.invariant
    c.loop-edge-test.true

pub returns : goal.returns
returns c = all_ranked c.args.ranks.now c.args.edges.now c.loop-edge.edge-index c.loop-edge.edges c.loop-edge.invariant c.loop-edge-test.false
