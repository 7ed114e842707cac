use Rattle.std.proofs.Common.{◌<◌, ◌++◌, ◌∷◌, [], All, ap, sym, subst, ◌∙◌}
use Rattle.std.proofs.lemmas.List.Elements.{All-push}
use Rattle.call_told.proofs.ToldLemmas.{told_skip, told_more}
use Rattle.call_told.proofs.told.told_nodes.Goals as goal

pub loop-node-preserved-then-not-is_told : goal.loop-node-preserved-then-not-is_told
loop-node-preserved-then-not-is_told c = record {
  nodes = c.loop-node.invariant.nodes ∙ sym (told_skip c.loop-node.node c.args.places.now c.args.all (sym c.is_told.ensures ∙ c.if-not-is_told.true));
  below = c.loop-node.invariant.below;
}

pub loop-node-preserved : goal.loop-node-preserved
loop-node-preserved c =
    let node = c.loop-node.node in
    record {
      nodes = c.in_ok-push.ensures.items
          ∙ (ap (λ nodes. nodes ++ node ∷ []) c.loop-node.invariant.nodes
          ∙ sym (told_more node c.args.places.now c.args.all (sym c.is_told.ensures ∙ c.if-not-is_told.false)));
      below = subst (All (λ p. p < c.args.count)) (sym c.in_ok-push.ensures.items)
          (All-push (λ p. p < c.args.count) c.loop-node.nodes.items node c.loop-node.invariant.below c.loop-node-test.true);
    }
