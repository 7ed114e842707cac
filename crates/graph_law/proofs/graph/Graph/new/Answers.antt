use Rattle.std.proofs.Common.{◌≡◌, ℕ, ◌<◌, List, [], length, get_or, All, sym, ◌∙◌, refl, subst, below_more}
use Rattle.std.proofs.lemmas.Bool.{false≢true}
use Rattle.graph_law.specs.Graph.{lists_of}
use Rattle.graph_law.proofs.GraphLaws.{length-lists_of, get_or-lists_of, all_below_from_closed}
use Rattle.graph_law.proofs.graph.Graph.new.Goals as goal

pub returns-then-not-all_below : goal.returns-then-not-all_below
returns-then-not-all_below c = λ graph.
    let lists : List (List ℕ) = lists_of c.args.succs.items in
    let items : c.deref-list-items.result.now ≡ c.args.succs.items = c.deref-list-items.ensures.value in
    let lt : c.loop-list.list-index < length c.deref-list-items.result.now = c.loop-list-test.true in
    let read : get_or (lists_of c.deref-list-items.result.now) c.loop-list.list-index [] ≡ c.list-item.result.items =
    get_or-lists_of c.deref-list-items.result.now c.loop-list.list-index c.list-item.result lt c.list-item.is in
    let same : c.len-count.result ≡ length lists =
    c.len-count.ensures ∙ c.args.succs.ok.0 ∙ sym (length-lists_of c.args.succs.items) in
    false≢true (c.if-not-all_below.ensures.1
    (all_below_from_closed lists c.loop-list.list-index c.len-count.result c.deref.result.now
    (c.deref.ensures.value ∙ sym (rw items at read)) same graph.closed))

pub loop-list-preserved : goal.loop-list-preserved
loop-list-preserved c =
    let lt : c.loop-list.list-index < length c.deref-list-items.result.now = c.loop-list-test.true in
    below_more (λ p. All (λ node. node < c.len-count.result) (get_or (lists_of c.deref-list-items.result.now) p [])) c.loop-list.list-index
    c.loop-list.invariant
    (subst (All (λ node. node < c.len-count.result))
    (c.deref.ensures.value ∙ sym (get_or-lists_of c.deref-list-items.result.now c.loop-list.list-index c.list-item.result lt c.list-item.is))
    (c.if-not-all_below.ensures.0 refl))
