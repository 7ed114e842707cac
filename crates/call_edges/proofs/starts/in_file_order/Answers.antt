use Rattle.std.proofs.Common.{map, ap, sym, ◌∙◌, subst}
use Rattle.std.specs.List.Sorted.{IsNonDecreasingBy, IsPermutation}
use Rattle.call_edges.specs.FileOrder.{node_of, start_place}
use Rattle.call_edges.proofs.FileOrderLemmas.{nodes_in_order, same_nodes}
use Rattle.call_edges.proofs.starts.in_file_order.Goals as goal

pub returns-clause-same : goal.returns-clause-same
returns-clause-same g c =
    let is = c.in_ok-order.ensures ∙ ap (map node_of) c.deref.ensures.value in
    subst (IsPermutation c.args.nodes.now) (sym is) (same_nodes c.args.program.now c.args.nodes.now c.in_ok-starts.starts.items c.in_ok-starts.ensures.starts)

pub returns-clause-in_order : goal.returns-clause-in_order
returns-clause-in_order g c =
    let seen = c.args.program.now in
    let is = c.in_ok-order.ensures ∙ ap (map node_of) c.deref.ensures.value in
    subst (IsNonDecreasingBy (start_place seen)) (sym is)
    (nodes_in_order seen c.args.nodes.now c.in_ok-starts.starts.items c.in_ok-starts.ensures.starts c.in_ok-starts.ensures.ascending)
