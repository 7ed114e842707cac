use Rattle.std.proofs.Common.{[], length, get_or, arith}
use Rattle.std.proofs.lemmas.List.{nil_from_length}
use Rattle.graph_law.specs.Graph.{Calls}
use Rattle.graph_law.proofs.Marks.{spreading_start, spreading_read, spreading_step, spreading_done}
use Rattle.graph_law.proofs.reach.reached_from.Goals as goal

pub loop-node-init : goal.loop-node-init
loop-node-init c =
    rw (c.in_ok-marks.ensures.items_if_clones_equal (λ y is. is), c.count.ensures.count, c.in_ok-pending.ensures.items)
    (spreading_start (Calls c.args.graph.now.lists) (length c.args.graph.now.lists) c.args.starts.now c.requires)

pub loop-node-preserved-then-index : goal.loop-node-preserved-then-index
loop-node-preserved-then-index c =
    spreading_read (Calls c.args.graph.now.lists) (length c.args.graph.now.lists) c.args.starts.now c.loop-node.marks.items c.pop.new.self.items c.in-Some.node
    c.index.result.now c.index.ensures c.if-index.true (rw c.in-Some.ensures.items at c.loop-node.invariant)

pub loop-node-preserved : goal.loop-node-preserved
loop-node-preserved c =
    rw (c.in_ok-extend_from_slice.ensures.items, c.successors.ensures.successors)
    (spreading_step (Calls c.args.graph.now.lists) (length c.args.graph.now.lists) c.args.starts.now c.loop-node.marks.items c.pop.new.self.items c.in-Some.node
    (get_or c.args.graph.now.lists c.in-Some.node []) (λ q call. call) (λ q call. call)
    (λ q call. c.successors.ensures.graph.closed c.in-Some.node q call)
    (rw c.in-Some.ensures.items at c.loop-node.invariant))

pub returns : goal.returns
returns c =
    spreading_done (Calls c.args.graph.now.lists) (length c.args.graph.now.lists) c.args.starts.now c.loop-node.marks.items
    (rw (nil_from_length c.loop-node.pending.items (omega (arith, c.in_default.ensures.cases.0, c.loop-node.pending.ok.0))) at c.loop-node.invariant)
