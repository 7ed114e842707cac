use Rattle.std.proofs.Common.{◌++◌, ◌∷◌, [], map, take, get_or, ap, sym, ◌∙◌}
use Rattle.std.proofs.lemmas.List.{map-append, take_all, take_more}
use Rattle.call_edges.specs.FileOrder.{see_start, start_in}
use Rattle.call_edges.proofs.starts.starts_from.Goals as goal

pub loop-node-preserved : goal.loop-node-preserved
loop-node-preserved c =
    let seen = c.args.program.now in
    let nodes = c.args.nodes.now in
    let k = c.loop-node.node-index in
    let node = get_or nodes k 0 in
    let before = take k nodes in
    ap (map see_start) c.in_ok-push.ensures.items
    ∙ (map-append see_start c.loop-node.starts.items _
    ∙ (ap (λ xs. xs ++ (node, c.first_place.result) ∷ []) c.loop-node.invariant
    ∙ (ap (λ place. map (start_in seen) before ++ (node, place) ∷ []) c.first_place.ensures
    ∙ (sym (map-append (start_in seen) before (node ∷ [])) ∙ ap (map (start_in seen)) (sym (take_more nodes k 0 c.loop-node-test.true))))))

pub returns : goal.returns
returns c =
    let seen = c.args.program.now in
    let nodes = c.args.nodes.now in
    c.loop-node.invariant ∙ ap (map (start_in seen)) (take_all c.loop-node.node-index nodes c.loop-node-test.false)
