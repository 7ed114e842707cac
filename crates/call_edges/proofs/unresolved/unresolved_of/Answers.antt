use Rattle.std.proofs.Common.{map, ap, ◌∙◌}
use Rattle.rayon.proofs.ListFacts.{IfOk-then}
use Rattle.call_edges.specs.Seen.{see_mets}
use Rattle.call_edges.specs.Called.{see_called}
use Rattle.call_edges.proofs.UnresolvedLemmas.{node_names, all_names}
use Rattle.call_edges.proofs.unresolved.unresolved_of.Goals as goal

pub returns : goal.returns
returns c =
    let seen = c.args.program.now in
    let node = c.args.node in
    let called = c.push_unresolved.new.names.items in
    let told =
    node_names seen node (see_mets c.in_ok-met.met.items) (map see_called c.new-called.result.items) (map see_called called) c.in_ok-met.ensures.met
    (ap (map see_called) c.new-called.ensures.items) (rw c.deref.ensures.value at c.in_ok-push_unresolved.ensures) in
    IfOk-then c.own_names.result _ _ c.own_names.ensures (λ names is.
    all_names seen node called c.sort_unstable.new.self.items c.dedup.new.self.items names.items told
    c.sort_unstable.ensures.permutation c.sort_unstable.ensures.sorted c.dedup.ensures.filtered (is ∙ ap (map see_called) c.deref-2.ensures.value))
