use Rattle.std.proofs.Common.{◌≡◌, ℕ, ◌<◌, List, [], ◌∷◌, ◌++◌, length, get_or, sym, ap, ap₂, ◌∙◌, subst}
use Rattle.std.proofs.lemmas.List.{take_more}
use Rattle.graph_law.proofs.GraphLaws.{within_lists}
use Rattle.group_feed.specs.declared.line.Hand.{Hand}
use Rattle.crossbeam_queue.specs.Passes.{view}
use Rattle.group_feed.proofs.FeedSteps.{may_push_next}
use Rattle.group_feed.proofs.feeder.push_from.Goals as goal

pub push-requires-clause-may : goal.push-requires-clause-may
push-requires-clause-may g c =
    let groups : List (List ℕ) = c.args.copies.now.groups in
    let n : ℕ = c.loop-at.at in
    let lt : n < length groups =
    subst (λ (l : List (List ℕ)). n < length l) c.groups-at-end.ensures.groups (within_lists c.groups-at-end.result.now n c.loop-at-test.true) in
    let is : c.in_ok-nodes.nodes.items ≡ get_or groups n [] = c.in_ok-nodes.ensures in
    may_push_next g.N.Graph.lists groups (view c.loop-at.hand).pushed n c.in_ok-nodes.nodes.items lt is c.loop-at.invariant.3 c.requires.ordered

pub loop-at-preserved : goal.loop-at-preserved
loop-at-preserved g c =
    let groups : List (List ℕ) = c.args.copies.now.groups in
    let n : ℕ = c.loop-at.at in
    let lt : n < length groups =
    subst (λ (l : List (List ℕ)). n < length l) c.groups-at-end.ensures.groups (within_lists c.groups-at-end.result.now n c.loop-at-test.true) in
    let is : c.in_ok-nodes.nodes.items ≡ get_or groups n [] = c.in_ok-nodes.ensures in (
      c.push.ensures.queue,
      ap (λ (v : Hand). v.feeds) c.push.ensures.pushed ∙ c.loop-at.invariant.1,
      ap (λ (v : Hand). v.ended) c.push.ensures.pushed ∙ c.loop-at.invariant.2,
      ap (λ (v : Hand). v.pushed) c.push.ensures.pushed
          ∙ (ap₂ (λ (xs : List (List ℕ)) (x : List ℕ). xs ++ x ∷ []) c.loop-at.invariant.3 is ∙ sym (take_more groups n [] lt)),
    )
