use Rattle.std.proofs.Common.{[], length, slice_index_or, ap, sym, ◌∙◌}
use Rattle.graph_law.proofs.GraphLaws.{all_below_from_closed}
use Rattle.call_edges.specs.Successors.{successor_lists}
use Rattle.call_edges.proofs.SuccessorLemmas.{lists_closed, lists_count}
use Rattle.call_told.proofs.ToldLemmas.{node_listed}
use Rattle.call_told.proofs.condensed.push_edges_from.Goals as goal

pub expand-requires-clause-below : goal.expand-requires-clause-below
expand-requires-clause-below c =
    node_listed c.args.calls.now c.args.told.now.program.now c.args.node c.requires.calls c.requires.below

pub push_edges_to-requires-clause-below : goal.push_edges_to-requires-clause-below
push_edges_to-requires-clause-below c =
    let seen = c.args.told.now.program.now in
    let read = c.in_ok-expand.ensures.ok ∙ ap (λ s. slice_index_or (successor_lists s) c.args.node []) c.requires.calls in
    all_below_from_closed (successor_lists seen) c.args.node (length seen.predicates) c.deref.result.now (c.deref.ensures.value ∙ read)
    (sym (lists_count seen)) (lists_closed seen)
