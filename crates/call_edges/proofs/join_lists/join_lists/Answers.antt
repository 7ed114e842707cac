use Rattle.std.proofs.Common.{◌++◌, get_or, ap, sym, ◌∙◌}
use Rattle.std.specs.List.{flat_map}
use Rattle.std.proofs.lemmas.List.{take_all}
use Rattle.call_edges.proofs.BodyLemmas.{flat_more}
use Rattle.call_edges.proofs.join_lists.join_lists.Goals as goal

pub loop-list-preserved : goal.loop-list-preserved
loop-list-preserved g c =
    let each = c.args.each.now in
    let k = c.loop-list.list-index in
    let list = c.list-item.result in
    c.in_ok-extend_from_slice.ensures.items
    ∙ (ap (λ xs. c.loop-list.all.items ++ xs) (c.deref.ensures.value ∙ ap (λ v. v.items) c.list-item.is)
    ∙ (ap (λ xs. xs ++ (get_or each k list).items) c.loop-list.invariant ∙ sym (flat_more (λ v. v.items) each k list c.loop-list-test.true)))

pub returns : goal.returns
returns g c = c.loop-list.invariant ∙ ap (flat_map (λ list. list.items)) (take_all c.loop-list.list-index c.args.each.now c.loop-list-test.false)
